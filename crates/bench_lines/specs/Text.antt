-- What a text of calls prints: a line for each of its lines. Assumes nothing.
use Rattle.std.specs.Prelude.{ℕ, List, [], ◌∷◌, ◌++◌}
use Rattle.call_lines.specs.Format.{lines, read_line}
use Rattle.answer_lines.specs.Printed.{printed}
use Rattle.bench_step.specs.Step.{answered}

-- what lines print, one after the other, from a block at hand on
unfoldable pub printed_from : List ℕ → List (List ℕ) → List ℕ
printed_from ws [] = []
printed_from ws (l ∷ ls) = printed (answered (read_line l) ws).0 ++ printed_from (answered (read_line l) ws).1 ls

-- there is no block at first
unfoldable pub output : List ℕ → List ℕ
output text = printed_from [] (lines text)
