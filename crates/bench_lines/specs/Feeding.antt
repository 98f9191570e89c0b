-- A text that is fed in, a byte at a time, for as long as the buffer has room. Assumes nothing.
use Rattle.std.specs.Prelude.{ℕ, suc, ◌+◌, ◌≤◌, Bool, cond, List, [], ◌∷◌, eqb, leb, length, take, drop}
use Rattle.laws.specs.Every.{every}
use Rattle.laws.specs.Splice.{splice}
use Rattle.table.specs.Layout.{most_words}
use Rattle.call_lines.specs.Reading as reading
use Rattle.answer_lines.specs.Printed.{printed, longest}
use Rattle.bench_step.specs.Step.{Outcome, answered}
use Rattle.bench_lines.specs.declared.Bench.{Bench}
use Rattle.bench_lines.specs.declared.Fed.{Fed}

-- no byte read, and no block
abbrev pub begin : Bench
begin = record { line = reading.fresh; lent = 0; used = 0 }

abbrev pub emptied : Bench → Bench
emptied s = record { line = s.line; lent = s.lent; used = 0 }

abbrev pub is_begun : Bench → Bool
is_begun s = reading.is_begun s.line

-- the store is long enough for every table, and for the one at hand
unfoldable pub fits : Bench → List ℕ → Bool
fits s store = every (leb most_words (length store) ∷ leb s.lent (length store) ∷ [])

-- one more answer finds room
unfoldable pub has_room : Bench → List ℕ → Bool
has_room s out = leb (s.used + longest) (length out)

-- ---- one byte: what is kept after it, the store, and the buffer

abbrev pub Kept : Type 0
Kept = Bench × List ℕ × List ℕ

-- what a line comes to
abbrev pub outcome : Bench → List ℕ → Outcome
outcome s store = answered (reading.asked s.line) (take s.lent store)

-- the words at hand are put first in the store, and the answer is put next into the buffer
abbrev pub put : Bench → List ℕ → List ℕ → Outcome → Kept
put s store out (a, ws) = (
  record { line = reading.fresh; lent = length ws; used = s.used + length (printed a) },
  splice store 0 ws,
  splice out s.used (printed a),
)

unfoldable pub ended_on : Bench → List ℕ → List ℕ → Kept
ended_on s store out = put s store out (outcome s store)

-- a line feed ends the line; any other byte belongs to it
unfoldable pub taken_on : Bench → ℕ → List ℕ → List ℕ → Kept
taken_on s b store out =
    cond (eqb b 10) (ended_on s store out)
    (record { line = reading.fed s.line b; lent = s.lent; used = s.used }, store, out)

-- ---- many bytes

abbrev pub FedKept : Type 0
FedKept = Fed × List ℕ × List ℕ

abbrev pub stopped : ℕ → Kept → FedKept
stopped at (s, store, out) = (record { bench = s; read = at }, store, out)

-- from a place on, to the end of the text or of the room
unfoldable pub fed_from : ℕ → List ℕ → Kept → FedKept
fed_from at [] k = stopped at k
fed_from at (b ∷ t) k = cond (has_room k.0 k.2) (fed_from (suc at) t (taken_on k.0 b k.1 k.2)) (stopped at k)

-- the call; in a store that is too short nothing is read
unfoldable pub feed_on : List ℕ → ℕ → Bench → List ℕ → List ℕ → FedKept
feed_on text from s store out =
    cond (fits s store) (fed_from from (drop from text) (emptied s, store, out)) (stopped from (emptied s, store, out))

-- ---- what the parts of the call are told

-- the store is long enough for every table and for the one at hand, and the buffer has room for an answer
pub record Ready (s : Bench) (store out : List ℕ) : Type 0 where
  pub long : most_words ≤ length store
  pub lent : s.lent ≤ length store
  pub room : s.used + longest ≤ length out
