-- When the words of a table are sound. Assumes nothing.
use Rattle.std.specs.Prelude.{ℕ, ◌+◌, ◌≤◌, ◌<◌, cond, ◌≢◌, ◌≡◌, eqb}
use mathlib.Core.List.{List, [], ◌∷◌, Memᴰ}
use Rattle.laws.specs.Lists.{All, Pairwise, Linked}
use Rattle.model.specs.Block.{largest_block}
use Rattle.table.specs.Layout.{Slot, block_size, allocated_word, next_id, first_slot, id_at, size_at, first_byte_at, kind_at, label_at, next_at, previous_at, row, empty_row}

-- a slot that is not seven zeros
abbrev pub Used : List ℕ → ℕ → Type 0
Used ws k = Slot ws k × (row ws k ≢ empty_row)

-- along "next" from slot k to the end, 0, these are the slots, and "previous" names the one before
abbrev pub Walk : List ℕ → ℕ → ℕ → List ℕ → Type 0
Walk ws prev k [] = k ≡ 0
Walk ws prev k (v ∷ vs) = (k ≡ v) × (previous_at ws v ≡ prev) × Walk ws v (next_at ws v) vs

-- each begins where the one before ends, the first at an address, and the last ends at another
abbrev pub Follow : List ℕ → ℕ → List ℕ → ℕ → Type 0
Follow ws first [] end = first ≡ end
Follow ws first (v ∷ vs) end = (first_byte_at ws v ≡ first) × Follow ws (first + size_at ws v) vs end

-- the sum of the live sizes
abbrev pub live_bytes : List ℕ → List ℕ → ℕ
live_bytes ws [] = 0
live_bytes ws (v ∷ vs) = cond (eqb (kind_at ws v) 0) 0 (size_at ws v) + live_bytes ws vs

abbrev pub Unlike : ℕ → ℕ → Type 0
Unlike j k = j ≢ k

pub record Sound (ws : List ℕ) : Type 0 where
  -- block size 1 to 2^40
  pub size : (1 ≤ block_size ws) × (block_size ws ≤ largest_block)
  -- next id at least 2
  pub next : 2 ≤ next_id ws
  -- ids distinct, at least 1 and below next id
  pub distinct : (j k : ℕ) → Used ws j → Used ws k → id_at ws j ≡ id_at ws k → j ≡ k
  pub ids : (k : ℕ) → Used ws k → (1 ≤ id_at ws k) × (id_at ws k < next_id ws)
  -- sizes at least 1
  pub sizes : (k : ℕ) → Used ws k → 1 ≤ size_at ws k
  -- kinds 0 to 2
  pub kinds : (k : ℕ) → Used ws k → kind_at ws k ≤ 2
  -- free chunks labelled 0
  pub labels : (k : ℕ) → Used ws k → kind_at ws k ≡ 0 → label_at ws k ≡ 0
  -- the walk along "next" visits every used slot once and "previous" agrees
  pub walk : List ℕ
  pub links : Walk ws 0 (first_slot ws) walk
  pub once : Pairwise Unlike walk
  pub visited : (k : ℕ) → Used ws k → Memᴰ k walk
  pub used : All (Used ws) walk
  -- each chunk begins where the one before ends, the first at 0, the last ending at the block size
  pub follow : Follow ws 0 walk (block_size ws)
  -- no two neighbours free
  pub neighbours : Linked (λ j k. kind_at ws j ≡ 0 → kind_at ws k ≢ 0) walk
  -- allocated equals the sum of live sizes, padding included
  pub allocated : allocated_word ws ≡ live_bytes ws walk
