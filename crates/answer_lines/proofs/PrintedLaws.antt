-- How long a printed line is. Assumes nothing.
use Rattle.std.specs.Prelude.{ℕ, ◌^◌, ◌≤◌, ◌<◌, length}
use Rattle.std.proofs.Common.{arith, length-append}
use Rattle.std.proofs.Math.Option.{some}
use Rattle.model.specs.Lines.{line}
use Rattle.answer_lines.specs.Printed.{printed, longest}
use Rattle.answer_lines.specs.PrintedLaws.{printed-fields, field-short}

-- A line of such numbers is no longer than the longest.
pub printed-short : (number offset id allocated : ℕ) → number < 2 ^ 64 → offset < 2 ^ 64 → id < 2 ^ 64 → allocated < 2 ^ 64 →
    length (printed (some (line number offset id allocated))) ≤ longest
printed-short number offset id allocated n o i a =
    rw printed-fields
    (simp length-append (omega (arith, field-short number 32 n, field-short offset 32 o, field-short id 32 i, field-short allocated 10 a)))
