-- When a block is sound. Assumes nothing.
use Rattle.std.specs.Prelude.{◌≤◌, ◌<◌, ◌≢◌, ◌≡◌}
use Rattle.laws.specs.Lists.{All, Pairwise, Linked}
use Rattle.model.specs.Block.{Chunk, Block, total, largest_block}

abbrev pub DifferentIds : Chunk → Chunk → Type 0
DifferentIds x y = x.id ≢ y.id

abbrev pub DifferentSlots : Chunk → Chunk → Type 0
DifferentSlots x y = x.slot ≢ y.slot

abbrev pub NotBothFree : Chunk → Chunk → Type 0
NotBothFree x y = x.kind ≡ 0 → y.kind ≢ 0

-- a block's rules, in the order in which a table's are named. That each chunk begins where the one before ends, and that
-- `allocated` is the sum of the live sizes, needs no rule: neither is written down in a block
pub record Sound (b : Block) : Type 0 where
  -- 1 to 512 slots
  pub slots : (1 ≤ b.slots) × (b.slots ≤ 512)
  -- block size 1 to 2^40
  pub size : (1 ≤ b.size) × (b.size ≤ largest_block)
  -- next id at least 2
  pub next : 2 ≤ b.next
  -- ids distinct, at least 1 and below next id
  pub distinct : Pairwise DifferentIds b.chunks
  pub ids : All (λ c. (1 ≤ c.id) × (c.id < b.next)) b.chunks
  -- sizes at least 1
  pub sizes : All (λ c. 1 ≤ c.size) b.chunks
  -- kinds 0 to 2
  pub kinds : All (λ c. c.kind ≤ 2) b.chunks
  -- free chunks labelled 0
  pub labels : All (λ c. c.kind ≡ 0 → c.label ≡ 0) b.chunks
  -- each chunk in a slot of its own
  pub places : All (λ c. (1 ≤ c.slot) × (c.slot ≤ b.slots)) b.chunks
  pub apart : Pairwise DifferentSlots b.chunks
  -- the last chunk ends at the block size
  pub whole : total b.chunks ≡ b.size
  -- no two neighbours free
  pub neighbours : Linked NotBothFree b.chunks
