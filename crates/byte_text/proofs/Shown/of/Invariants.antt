-- What is left to divide comes to what was to divide. Assumes nothing.
use Rattle.std.proofs.Common.{◌≡◌, ◌+◌, ◌-◌}
use Rattle.byte_text.specs.ByteText.{divided}
use Rattle.byte_text.proofs.Shown.of.Given as goal

abbrev pub invariant-loop-unit : goal.invariant-loop-unit
invariant-loop-unit l = divided (3 - l.unit-index) (l.unit-index + 1) l.left ≡ divided 3 1 l.amount
