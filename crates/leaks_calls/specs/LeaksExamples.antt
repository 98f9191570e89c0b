-- What crosses the boundary of the leak walk, by computing. Assumes nothing.
use Rattle.std.specs.Prelude.{ℕ, List, [], ◌∷◌, ◌≡◌, refl, None, Some}
use Rattle.laws.specs.Reply.{accepted, refused}
use Rattle.opening.specs.Look.{table_fault}
use Rattle.leaks_calls.specs.LeaksCalls.{start_out, leak_out}

start-number : (ws : List ℕ) → start_out ws ≡ (table_fault ws, 0)
start-number ws = refl

-- A live chunk's words are its id, its first byte, its size, its kind and its label.
handed_out_lem : leak_out (accepted (Some record { id = 1; first_byte = 2; size = 3; kind = 4; label = 5 }), 9) ≡ (0, 9, 1 ∷ 2 ∷ 3 ∷ 4 ∷ 5 ∷ [])
handed_out_lem = refl

-- The end is accepted, and its id of 0 tells it.
at-the_end : leak_out (accepted None, 9) ≡ (0, 9, 0 ∷ 0 ∷ 0 ∷ 0 ∷ 0 ∷ [])
at-the_end = refl

step-refused : leak_out (refused 2, 9) ≡ (2, 9, 0 ∷ 0 ∷ 0 ∷ 0 ∷ 0 ∷ [])
step-refused = refl
