-- Joining two free neighbours, as words: which rows change. Assumes nothing.
use Rattle.std.specs.Prelude.{ℕ, ◌+◌, ◌≢◌, ◌≡◌, length}
use mathlib.Core.List.{List, [], ◌∷◌}
use Rattle.table.specs.Layout.{Slot, block_size, allocated_word, next_id, first_slot, id_at, size_at, first_byte_at, kind_at, label_at, next_at, previous_at, row, empty_row}

-- what joining leaves in the words: the chunk in slot k is longer, the slot after it is empty, and the links pass it by
pub record JoinedRows (ws ws' : List ℕ) (k : ℕ) : Type 0 where
  pub count : length ws' ≡ length ws
  pub size : block_size ws' ≡ block_size ws
  pub allocated : allocated_word ws' ≡ allocated_word ws
  pub next : next_id ws' ≡ next_id ws
  pub first : first_slot ws' ≡ first_slot ws
  pub kept : row ws' k
      ≡ id_at ws k ∷ (size_at ws k + size_at ws (next_at ws k)) ∷ first_byte_at ws k ∷ kind_at ws k ∷ label_at ws k
      ∷ next_at ws (next_at ws k) ∷ previous_at ws k ∷ []
  pub taken : row ws' (next_at ws k) ≡ empty_row
  pub after : let m = next_at ws (next_at ws k) in
      m ≢ 0 → row ws' m ≡ id_at ws m ∷ size_at ws m ∷ first_byte_at ws m ∷ kind_at ws m ∷ label_at ws m ∷ next_at ws m ∷ k ∷ []
  pub others : (i : ℕ) → Slot ws i → i ≢ k → i ≢ next_at ws k → i ≢ next_at ws (next_at ws k) → row ws' i ≡ row ws i
