-- The leak walk at the boundary: the numbers and words that stand for what is handed out. Assumes nothing.
use Rattle.std.specs.Prelude.{ℕ, List, [], ◌∷◌, Option, None, Some}
use Rattle.laws.specs.Reply.{Reply, accepted, refused, number}
use Rattle.opening.specs.Look.{table_fault}
use Rattle.leaks.specs.Leaks.{Live}

-- the number given back at the start, and the place, which is 0 whatever the table is
abbrev pub start_out : List ℕ → ℕ × ℕ
start_out ws = (table_fault ws, 0)

-- the five words of a live chunk: zeros at the end and on a refusal
abbrev pub leak_words : Reply (Option Live) → List ℕ
leak_words (accepted (Some l)) = l.id ∷ l.first_byte ∷ l.size ∷ l.kind ∷ l.label ∷ []
leak_words (accepted None) = 0 ∷ 0 ∷ 0 ∷ 0 ∷ 0 ∷ []
leak_words (refused n) = 0 ∷ 0 ∷ 0 ∷ 0 ∷ 0 ∷ []

-- the number given back, which is 0 at the end too, the place after the step, and the words
abbrev pub leak_out : Reply (Option Live) × ℕ → ℕ × ℕ × List ℕ
leak_out step = (number step.0, step.1, leak_words step.0)
