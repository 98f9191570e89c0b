-- The parts of a printed line, and how long it is. Assumes nothing.
use Rattle.std.specs.Prelude.{ℕ, ◌^◌, ◌≤◌, ◌<◌, List, [], ◌∷◌, ◌++◌, ◌≡◌, length}
use Rattle.std.proofs.Common.{append_assoc, arith, length-append}
use Rattle.std.proofs.Math.Option.{none, some}
use Rattle.laws.specs.Decimal.{decimal, decimal-short}
use Rattle.model.specs.Lines.{line}
use Rattle.answer_lines.specs.Printed.{printed, longest}

-- a number, and the byte behind it
unfoldable pub field : ℕ → ℕ → List ℕ
field n end = decimal n ++ (end ∷ [])

-- A line is four of them.
pub printed-fields : (number offset id allocated : ℕ) →
    printed (some (line number offset id allocated)) ≡ field number 32 ++ (field offset 32 ++ (field id 32 ++ field allocated 10))
unfolding field
printed-fields number offset id allocated = simp append_assoc

-- A number of 64 bits has at most 20 digits.
pub field-short : (n end : ℕ) → n < 2 ^ 64 → length (field n end) ≤ 21
unfolding field
field-short n end h = rw length-append (omega (arith, decimal-short 19 n (omega arith)))

-- "?" is no longer than the longest line.
pub unread_short : length (printed none) ≤ longest
unread_short = omega arith
