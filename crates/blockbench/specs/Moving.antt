-- What is kept while a text is moved: no byte of it is skipped, and a line that cannot be read or answered whole is dropped. Assumes nothing.
use Rattle.std.specs.Prelude.{ℕ, ◌-◌, ◌≤◌, ◌<◌, true, false, List, [], ◌∷◌, ◌≡◌, length, take, drop, Option, Some, None, Result, Ok, Err, IfOk}
use Rattle.std.specs.declared.ops.ControlFlow.{ControlFlow}
use Rattle.std.specs.declared.ops.ControlFlow.TheVariants as flow
use Rattle.bench_lines.specs.Feeding.{is_begun, fits}
use Rattle.bench_lines.specs.Fed.{state_of}
use Rattle.bench_lines.specs.Told.{after_all}
use Rattle.bench_lines.specs.declared.Bench.{Bench}
use Rattle.bench_lines.specs.declared.Fed.{Fed}
use Rattle.blockbench.specs.declared.Failure.{Failure}
use Rattle.blockbench.specs.declared.Failure.TheVariants as failure

-- Of a piece of the text some bytes are read, from a place on: one at least, where there is one. What is kept is what they leave, in a
-- store that is long enough for the next ones. Where the answers cannot be written there is no text any more.
pub record MovesSome (text : List ℕ) (from : ℕ) (s : Bench) (store : List ℕ) (r : Fed) (after : List ℕ) : Type 0 where
  pub moves : from < length text → from < r.read
  pub most : from ≤ length text → r.read ≤ length text
  pub keeps : state_of r.bench after ≡ after_all (state_of s store) (take (r.read - from) (drop from text))
  pub long : fits r.bench after ≡ true

-- All of it is read, unless the answers cannot be written.
pub record MovesAll (text : List ℕ) (s : Bench) (store : List ℕ) (r : Fed) (after : List ℕ) : Type 0 where
  pub read : r.read ≡ length text
  pub keeps : state_of r.bench after ≡ after_all (state_of s store) text
  pub long : fits r.bench after ≡ true

-- After a failed read there is no text any more. At the end of the input what is kept stays. Any other read brings a piece.
pub record MovesGot (got : Option (List ℕ)) (s : Bench) (store : List ℕ) (r : Result (ControlFlow Unit Unit) Failure) (k : Bench) (after : List ℕ) : Type 0 where
  pub fails : got ≡ None → (r ≡ Err failure.Input) × (after ≡ store)
  pub ends : got ≡ Some [] → (r ≡ Ok (flow.Break tt)) × (k ≡ s) × (after ≡ store)
  pub brings : (text : List ℕ) → got ≡ Some text → 1 ≤ length text
      → IfOk r (λ f. (f ≡ flow.Continue tt) × MovesAll text s store record { bench = k; read = length text } after)

-- A last line is ended by a line feed exactly where it has a byte.
pub record MovesLast (s : Bench) (store : List ℕ) (r : Result Unit Failure) (k : Bench) (after : List ℕ) : Type 0 where
  pub ends : is_begun s ≡ true → IfOk r (λ _. MovesAll (10 ∷ []) s store record { bench = k; read = 1 } after)
  pub stays : is_begun s ≡ false → (r ≡ Ok tt) × (k ≡ s) × (after ≡ store)
