-- What an accepted free leaves in the slots of a table. Definitions. Assumes nothing.
use Rattle.std.specs.Prelude.{ℕ, ◌≢◌, ◌≡◌}
use mathlib.Core.List.{List}
use Rattle.laws.specs.Lists.{All}
use Rattle.table.specs.Layout.{next_id, id_at, first_byte_at, kind_at}
use Rattle.words.specs.Soundness.{Used}
use Rattle.block.specs.Entries.{Entry, Tells, Empty, Same}

-- a chunk is in slot k, and it is free; slot 0 has none
abbrev pub FreeSlot : List ℕ → ℕ → Type 0
FreeSlot ws k = Used ws k × (kind_at ws k ≡ 0)

-- a free chunk of so many bytes, under the id of the chunk in slot k and from its first byte on
abbrev pub free_entry : List ℕ → ℕ → ℕ → Entry
free_entry ws k size = record { id = id_at ws k; size = size; first = first_byte_at ws k; kind = 0; label = 0 }

-- a chunk is given back: slot k has a free chunk of so many bytes
pub record FreedAt (ws ws' : List ℕ) (k size : ℕ) (merged : List ℕ) : Type 0 where
  pub chunk : Tells ws' k (free_entry ws k size)
  -- no id is spent
  pub next : next_id ws' ≡ next_id ws
  -- the slots of the chunks that were merged into it are zeroed
  pub zeroed : All (Empty ws') merged
  -- every other slot is as it was
  pub others : (i : ℕ) → i ≢ k → All (λ j. i ≢ j) merged → Same ws ws' i
