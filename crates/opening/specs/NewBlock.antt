-- What the table of a new block is. Assumes nothing.
use Rattle.std.specs.Prelude.{ℕ, ◌≤◌, List, [], ◌∷◌, ◌≡◌}
use Rattle.table.specs.Layout.{slot_count, block_size, allocated_word, next_id, first_slot, row, empty_row}

-- a fresh table of a block of so many bytes: next id 2 and one free chunk, id 1, in slot 1; all other slots are empty
pub record FreshTable (size : ℕ) (ws : List ℕ) : Type 0 where
  pub head : (block_size ws ≡ size) × (allocated_word ws ≡ 0) × (next_id ws ≡ 2) × (first_slot ws ≡ 1)
  pub chunk : row ws 1 ≡ 1 ∷ size ∷ 0 ∷ 0 ∷ 0 ∷ 0 ∷ 0 ∷ []
  pub others : (k : ℕ) → 2 ≤ k → k ≤ slot_count ws → row ws k ≡ empty_row
