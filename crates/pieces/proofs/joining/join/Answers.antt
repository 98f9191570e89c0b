-- `pieces::joining::join` meets its contract. Assumes nothing.
use Rattle.pieces.proofs.JoinStores.{all_zeros, join_words}
use Rattle.pieces.proofs.joining.join.Goals as goal

pub returns : goal.returns
returns c = λ left chunk after right h.
    let (id, (size, (first, (kind, (label, (next, previous)))))) = c.default.ensures in
    rw (c.set_previous_of.ensures, c.set_word-2.ensures, c.set_word.ensures, c.set_row.ensures, all_zeros id size first kind label next previous, c.word-after.ensures, c.word.ensures, c.word-2.ensures, c.word-n.ensures)
    (join_words c.args.w.now c.args.k left chunk after right h)
