-- `chunks::taking::take_whole` meets its contract. Assumes nothing.
use Rattle.chunks.proofs.ChunkStores.{take_words}
use Rattle.chunks.proofs.taking.take_whole.Goals as goal

pub returns : goal.returns
returns c = λ z h live. cc (take_words c.args.w.now c.args.k c.args.mark.kind c.args.mark.label z h live)
