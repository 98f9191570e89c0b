-- The line that an answer is printed as. Assumes nothing.
use Rattle.std.specs.Prelude.{ℕ, List, [], ◌∷◌, ◌++◌, ◌≡◌, refl, Some, None}
use Rattle.std.specs.Prelude as code
use Rattle.std.proofs.Math.Option.{Option, none, some}
use Rattle.std.proofs.Common.{sym, ap, ◌∙◌}
use Rattle.laws.specs.Decimal.{decimal}
use Rattle.model.specs.Lines.{Line, line}
use Rattle.answer_lines.specs.declared.Answer.{Answer}

-- number, offset, id and allocated in decimal, parted by one space; "?" for a line that has no answer; then a line feed
abbrev pub printed : Option Line → List ℕ
printed none = 63 ∷ 10 ∷ []
printed (some l) =
    decimal l.number ++ (32 ∷ decimal l.offset ++ (32 ∷ decimal l.id ++ (32 ∷ decimal l.allocated ++ (10 ∷ []))))

abbrev pub answer_of : code.Option Answer → Option Line
answer_of (Some a) = some (line a.number a.offset a.id a.allocated)
answer_of None = none

-- the most bytes that a line of numbers below 2^64 has: four times 20 digits and the byte behind them
abbrev pub longest : ℕ
longest = 84

-- ---- Two answers that are printed from the same line are equal.

abbrev answered : Option Line → code.Option Answer
answered none = None
answered (some l) = Some (record { number = l.number; offset = l.offset; id = l.id; allocated = l.allocated })

-- each is the answer of its line
answer_back : (a : code.Option Answer) → answered (answer_of a) ≡ a
answer_back (Some a) = refl
answer_back None = refl

pub one_answer-line : (a b : code.Option Answer) → answer_of a ≡ answer_of b → a ≡ b
one_answer-line a b e = sym (answer_back a) ∙ ap answered e ∙ answer_back b
