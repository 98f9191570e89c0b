-- `pieces::splitting::split_off` meets its contract. Assumes nothing.
use Rattle.pieces.proofs.SplitStores.{split_words}
use Rattle.pieces.proofs.splitting.split_off.Goals as goal

pub returns : goal.returns
returns c = λ z h u live. cc (split_words c.args.w.now c.args.k c.args.piece.slot c.args.piece.size c.args.piece.mark.kind c.args.piece.mark.label z h u live c.requires.1 c.requires.3)
