-- `soundness::others_zero` meets its contract. Assumes nothing.
use Rattle.soundness.proofs.Ways.{by_bits}
use Rattle.soundness.proofs.others_zero.Goals as goal

pub returns : goal.returns
returns c =
    rw (c.word.ensures, c.word-2.ensures, c.word-3.ensures, c.word-4.ensures, c.word-5.ensures, c.word-6.ensures) (by_bits _ _)
