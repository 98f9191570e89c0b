-- Splitting a free chunk, as words: which rows change. Assumes nothing.
use Rattle.std.specs.Prelude.{ℕ, suc, ◌+◌, ◌-◌, ◌≢◌, ◌≡◌, length}
use mathlib.Core.List.{List, [], ◌∷◌}
use Rattle.table.specs.Layout.{Slot, block_size, allocated_word, next_id, first_slot, id_at, size_at, first_byte_at, kind_at, label_at, next_at, previous_at, row}

-- what splitting leaves in the words: n bytes in slot new, the remainder in slot k, and the links lead through both
pub record SplitRows (ws ws' : List ℕ) (k new n kind label : ℕ) : Type 0 where
  pub count : length ws' ≡ length ws
  pub size : block_size ws' ≡ block_size ws
  pub allocated : allocated_word ws' ≡ allocated_word ws + n
  pub next : next_id ws' ≡ suc (next_id ws)
  pub new_first : previous_at ws k ≡ 0 → first_slot ws' ≡ new
  pub same_first : previous_at ws k ≢ 0 → first_slot ws' ≡ first_slot ws
  pub piece : row ws' new ≡ next_id ws ∷ n ∷ first_byte_at ws k ∷ kind ∷ label ∷ k ∷ previous_at ws k ∷ []
  pub remainder : row ws' k
      ≡ id_at ws k ∷ (size_at ws k - n) ∷ (first_byte_at ws k + n) ∷ kind_at ws k ∷ label_at ws k ∷ next_at ws k ∷ new ∷ []
  pub before : let p = previous_at ws k in
      p ≢ 0 → row ws' p ≡ id_at ws p ∷ size_at ws p ∷ first_byte_at ws p ∷ kind_at ws p ∷ label_at ws p ∷ new ∷ previous_at ws p ∷ []
  pub others : (i : ℕ) → Slot ws i → i ≢ k → i ≢ new → i ≢ previous_at ws k → row ws' i ≡ row ws i
