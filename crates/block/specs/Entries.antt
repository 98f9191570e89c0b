-- What a slot of a table tells of its chunk, before a call and after it. Assumes nothing.
use Rattle.std.specs.Prelude.{ℕ, ◌<◌, List, ◌≡◌}
use Rattle.std.proofs.Common.{arith}
use Rattle.laws.specs.Tests.{either}
use Rattle.table.specs.Layout.{Slot, id_at, size_at, first_byte_at, kind_at, label_at, row, empty_row}
use Rattle.words.specs.Soundness.{Used}

-- a chunk as its slot tells it, its neighbours aside
pub record Entry : Type 0 where
  pub id : ℕ
  pub size : ℕ
  pub first : ℕ
  pub kind : ℕ
  pub label : ℕ

abbrev pub entry_at : List ℕ → ℕ → Entry
entry_at ws k = record {
  id = id_at ws k;
  size = size_at ws k;
  first = first_byte_at ws k;
  kind = kind_at ws k;
  label = label_at ws k;
}

-- slot k is used, and tells this
abbrev pub Tells : List ℕ → ℕ → Entry → Type 0
Tells ws k e = Used ws k × (entry_at ws k ≡ e)

-- slot k is empty: seven zeros
abbrev pub Empty : List ℕ → ℕ → Type 0
Empty ws k = Slot ws k × (row ws k ≡ empty_row)

-- slot k is the lowest empty one
pub record LowestEmpty (ws : List ℕ) (k : ℕ) : Type 0 where
  pub empty : Empty ws k
  pub below : (i : ℕ) → Slot ws i → i < k → Used ws i

-- There is one at most.
pub one_lowest : (ws : List ℕ) (j k : ℕ) → LowestEmpty ws j → LowestEmpty ws k → j ≡ k
one_lowest ws j k a b =
    either (j ≡ k) j k (λ l. absurd ((b.below j a.empty.0 l).1 a.empty.1))
    (λ m. either (j ≡ k) k j (λ l. absurd ((a.below k b.empty.0 l).1 b.empty.1)) (λ l. omega (arith, l, m)))

-- slot i is as it was: where it was used it still is and tells the same, where it was empty it still is
pub record Same (ws ws' : List ℕ) (i : ℕ) : Type 0 where
  pub used : Used ws i → Tells ws' i (entry_at ws i)
  pub empty : Empty ws i → Empty ws' i
