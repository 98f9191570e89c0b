-- What holds at each turn of `soundness::rest_empty`. Assumes nothing.
use Rattle.std.proofs.Common.{◌≡◌}
use Rattle.words.specs.Checks.{empty_below}
use Rattle.soundness.proofs.rest_empty.Given as goal

abbrev pub invariant-loop-k : goal.invariant-loop-k
invariant-loop-k l = empty_below l.w l.k l.left ≡ empty_below l.w l.s l.empty
