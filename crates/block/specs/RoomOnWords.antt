-- Demand 3, its first half, on the words of a sound table: when a request is told 'no room', and where an accepted one is
-- put. Definitions. Assumes nothing.
use Rattle.std.specs.Prelude.{ℕ, ◌+◌, ◌-◌, ◌%◌, ◌≤◌, ◌<◌, List, ◌≢◌, ◌≡◌}
use Rattle.pages.specs.Vulkan.{Resource}
use Rattle.model.specs.Block.{no_id}
use Rattle.model.specs.Placing.{Request}
use Rattle.model.specs.Room.{bytes, Keeps}
use Rattle.table.specs.Layout.{Slot, next_id, id_at, size_at, first_byte_at, kind_at, next_at, previous_at}
use Rattle.words.specs.Soundness.{Used}
use Rattle.sub_allocator.specs.Answers.{Given}

-- the bytes of the chunk in slot k, as Vulkan's rule takes them
abbrev pub bytes_at : List ℕ → ℕ → Resource
bytes_at ws k = bytes (first_byte_at ws k) (size_at ws k) (kind_at ws k)

-- the bytes that the request would have at an offset
abbrev pub bytes_of : Request → ℕ → Resource
bytes_of r offset = bytes offset r.size r.kind

-- the request may have the bytes from the offset on, in the chunk of slot k
pub record RoomAt (r : Request) (ws : List ℕ) (k offset : ℕ) : Type 0 where
  -- the slot is used, and its chunk is free
  pub used : Used ws k
  pub free : kind_at ws k ≡ 0
  -- the offset is a multiple of the alignment
  pub aligned : offset % r.alignment ≡ 0
  -- the bytes lie in the chunk
  pub above : first_byte_at ws k ≤ offset
  pub below : offset + r.size ≤ first_byte_at ws k + size_at ws k
  -- they keep Vulkan's rule with the chunk before, where there is one, and with the chunk after, by its recorded first byte
  pub before : previous_at ws k ≢ 0 → Keeps r.granularity (bytes_at ws (previous_at ws k)) (bytes_of r offset)
  pub after : next_at ws k ≢ 0 → Keeps r.granularity (bytes_of r offset) (bytes_at ws (next_at ws k))

-- the lowest offset with room in the smallest chunk that has some, of equals in the one at the lowest address
pub record BestAt (r : Request) (ws : List ℕ) (k offset : ℕ) : Type 0 where
  pub room : RoomAt r ws k offset
  pub lowest : (o : ℕ) → RoomAt r ws k o → offset ≤ o
  pub smallest : (j o : ℕ) → RoomAt r ws j o → size_at ws k ≤ size_at ws j
  pub earliest : (j o : ℕ) → RoomAt r ws j o → size_at ws k ≡ size_at ws j → first_byte_at ws k ≤ first_byte_at ws j

-- what an accepted request is told: the best offset, and the chunk's own id where padding and size come to its size; else
-- the next id, which is not the last, and some slot is not used
pub record PlacedAt (r : Request) (ws : List ℕ) (g : Given) : Type 0 where
  pub slot : ℕ
  pub best : BestAt r ws slot g.offset
  pub whole : g.offset - first_byte_at ws slot + r.size ≡ size_at ws slot → g.id ≡ id_at ws slot
  pub part : g.offset - first_byte_at ws slot + r.size ≢ size_at ws slot
      → (g.id ≡ next_id ws) × (next_id ws ≢ no_id) × ((j : ℕ) × Slot ws j × (Used ws j → ⊥))

-- the chunk at the request's place has more bytes than padding and size come to: it is to be split
pub record SplitsAt (r : Request) (ws : List ℕ) : Type 0 where
  pub slot : ℕ
  pub offset : ℕ
  pub best : BestAt r ws slot offset
  pub larger : offset + r.size < first_byte_at ws slot + size_at ws slot
