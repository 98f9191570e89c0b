-- Demand 3, its first half: when a request is told 'no room', and where an accepted one is put. Definitions. Assumes nothing.
use Rattle.std.specs.Prelude.{ℕ, ◌+◌, ◌%◌, ◌≤◌, ◌<◌, List, [], ◌∷◌, ◌≡◌}
use Rattle.pages.specs.Vulkan.{Resource, OneLinear, PagesApart}
use Rattle.model.specs.Block.{Chunk, Block, Spot, total, first}
use Rattle.model.specs.Choose.{Cut}
use Rattle.model.specs.Placing.{Request, Placed, offset_in, taken, new_slot, take_whole, split_off}
use Rattle.model.specs.Put.{Lowest}

-- so many bytes of a kind, from an offset on, as Vulkan's rule takes them
abbrev pub bytes : ℕ → ℕ → ℕ → Resource
bytes offset size kind = record { offset = offset; size = size; kind = kind }

-- Vulkan's rule between the bytes of two ranges: one linear and the other not, they keep to pages of their own
abbrev pub Keeps : ℕ → Resource → Resource → Type 0
Keeps granularity A B = OneLinear A B → PagesApart granularity A B

-- the rule between the nearest of the chunks on the left, where there is one, and the request's bytes
abbrev pub KeepsBefore : Request → ℕ → List Chunk → Type 0
KeepsBefore r offset [] = Unit {0}
KeepsBefore r offset (c ∷ left) = Keeps r.granularity (bytes (total left) c.size c.kind) (bytes offset r.size r.kind)

-- and between them and the nearest of the chunks on the right, which begins at the address
abbrev pub KeepsAfter : Request → ℕ → ℕ → List Chunk → Type 0
KeepsAfter r offset address [] = Unit {0}
KeepsAfter r offset address (c ∷ right) = Keeps r.granularity (bytes offset r.size r.kind) (bytes address c.size c.kind)

-- the request may have the bytes from the offset on, in the chunk of z
pub record Room (r : Request) (b : Block) (z : Spot) (offset : ℕ) : Type 0 where
  -- z is a chunk of the block with its neighbours
  pub cut : Cut b.chunks z
  -- the chunk is free
  pub free : z.chunk.kind ≡ 0
  -- the offset is a multiple of the alignment
  pub aligned : offset % r.alignment ≡ 0
  -- the bytes lie in the chunk
  pub above : first z ≤ offset
  pub below : offset + r.size ≤ first z + z.chunk.size
  -- they keep Vulkan's rule with the chunk before, by its last byte, and with the chunk after, by its recorded first byte
  pub before : KeepsBefore r offset z.left
  pub after : KeepsAfter r offset (first z + z.chunk.size) z.right

-- an accepted request: its place, and the id and the block that come of it
pub record Taken (r : Request) (b : Block) (p : Placed) : Type 0 where
  pub spot : Spot
  -- the lowest offset with room in the smallest chunk that has some, of equals in the one at the lowest address
  pub best : Lowest (Room r b) spot p.offset
  pub offset : p.offset ≡ offset_in r spot
  -- padding and size come to the chunk's size, or to less
  pub whole : taken r spot ≡ spot.chunk.size → (p.id ≡ spot.chunk.id) × (p.block ≡ take_whole r spot b)
  pub part : taken r spot < spot.chunk.size
      → (p.id ≡ b.next) × (p.block ≡ split_off r spot b) × (new_slot b ≤ b.slots)
