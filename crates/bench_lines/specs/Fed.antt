-- What a call reads of a text is printed and kept as its bytes are. Assumes nothing.
use Rattle.std.specs.Prelude.{ℕ, ◌+◌, ◌≤◌, ◌⊎◌, ◌≡◌, drop}
use Rattle.std.proofs.Math.Bool.{true, false}
use mathlib.Core.List.{List}
use Rattle.std.proofs.Math.ListN.{length, take}
use Rattle.answer_lines.specs.Printed.{longest}
use Rattle.bench_lines.specs.Feeding.{FedKept, fits, has_room}
use Rattle.bench_lines.specs.Told.{State, after_all, told}
use Rattle.bench_lines.specs.declared.Bench.{Bench}

-- what is kept, as a state: the line so far, and the words at hand
abbrev pub state_of : Bench → List ℕ → State
state_of s store = record { line = s.line; words = take s.lent store }

-- ---- a call

-- A call reads some bytes of the text, from its place on. The first bytes of the buffer are what these print, and what is kept is what
-- they leave, in a store that is as long as it was and long enough for the next call. It stops at the end of the text, or where the
-- buffer has no room for one more answer.
pub record Feeds (text : List ℕ) (from : ℕ) (s : Bench) (store out : List ℕ) (r : FedKept) : Type 0 where
  pub bytes : ℕ
  pub most : bytes ≤ length (drop from text)
  pub read : r.0.read ≡ from + bytes
  pub prints : take r.0.bench.used r.2 ≡ told (state_of s store) (take bytes (drop from text))
  pub keeps : state_of r.0.bench r.1 ≡ after_all (state_of s store) (take bytes (drop from text))
  pub long : fits r.0.bench r.1 ≡ true
  pub stays : length r.1 ≡ length store
  pub stops : (bytes ≡ length (drop from text)) ⊎ (has_room r.0.bench r.2 ≡ false)
  pub moves : longest ≤ length out → 1 ≤ length (drop from text) → 1 ≤ bytes
