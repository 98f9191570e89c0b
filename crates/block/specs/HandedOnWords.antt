-- What an accepted request leaves in the slots of a table. Definitions. Assumes nothing.
use Rattle.std.specs.Prelude.{ℕ, ◌+◌, ◌-◌, ◌≢◌, ◌≡◌}
use mathlib.Core.List.{List}
use Rattle.model.specs.Placing.{Request}
use Rattle.table.specs.Layout.{next_id, id_at, size_at, first_byte_at}
use Rattle.sub_allocator.specs.Answers.{Given}
use Rattle.block.specs.Entries.{Entry, Tells, LowestEmpty, Same}

-- ---- what the slots tell of the chunk that was in slot k

-- handed out whole, it is live under its own id
abbrev pub whole_entry : Request → List ℕ → ℕ → Entry
whole_entry r ws k = record { id = id_at ws k; size = size_at ws k; first = first_byte_at ws k; kind = r.kind; label = r.label }

-- split at the request's end, its left piece is live under the next id: padding and size, from its first byte on
abbrev pub piece_entry : Request → List ℕ → ℕ → ℕ → Entry
piece_entry r ws k offset = record {
  id = next_id ws;
  size = offset - first_byte_at ws k + r.size;
  first = first_byte_at ws k;
  kind = r.kind;
  label = r.label;
}

-- and the remainder is free under its own id: from the request's end to its own
abbrev pub remainder_entry : Request → List ℕ → ℕ → ℕ → Entry
remainder_entry r ws k offset = record {
  id = id_at ws k;
  size = first_byte_at ws k + size_at ws k - (offset + r.size);
  first = offset + r.size;
  kind = 0;
  label = 0;
}

-- the chunk in slot k is handed out whole: the id told is its own, and no id is spent
pub record WholeAt (r : Request) (ws ws' : List ℕ) (k : ℕ) (g : Given) : Type 0 where
  pub id : g.id ≡ id_at ws k
  pub next : next_id ws' ≡ next_id ws
  pub chunk : Tells ws' k (whole_entry r ws k)
  -- every other slot is as it was
  pub others : (i : ℕ) → i ≢ k → Same ws ws' i

-- the chunk in slot k is split: the id told is the next one, which rises by one
pub record SplitAt (r : Request) (ws ws' : List ℕ) (k : ℕ) (g : Given) : Type 0 where
  pub id : g.id ≡ next_id ws
  pub next : next_id ws' ≡ 1 + next_id ws
  -- the new left piece takes the lowest empty slot
  pub slot : ℕ
  pub lowest : LowestEmpty ws slot
  pub piece : Tells ws' slot (piece_entry r ws k g.offset)
  -- the remainder stays in slot k
  pub remainder : Tells ws' k (remainder_entry r ws k g.offset)
  -- every other slot is as it was
  pub others : (i : ℕ) → i ≢ k → i ≢ slot → Same ws ws' i
