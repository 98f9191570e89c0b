-- A dedicated block asked at the boundary: the number and words that stand for a report. Assumes nothing.
use Rattle.std.specs.Prelude.{ℕ, List, [], ◌∷◌}
use Rattle.laws.specs.Reply.{Reply, accepted, refused}
use Rattle.dedicated.specs.Dedicated.{Entry}

-- the number given back and the entry's three words: zeros on a refusal
abbrev pub report_out : Reply Entry → ℕ × List ℕ
report_out (accepted e) = (0, e.first_byte ∷ e.size ∷ e.label ∷ [])
report_out (refused n) = (n, 0 ∷ 0 ∷ 0 ∷ [])
