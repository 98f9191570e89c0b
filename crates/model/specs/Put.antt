-- Where a request is put, by the tests of `place`. Definitions. Assumes nothing.
use Prim.Native.Nat.{ℕ, ◌≤◌}
use Rattle.std.specs.Prelude.{◌≡◌}
use Rattle.std.proofs.Math.Option.{Option, none, some}
use Rattle.model.specs.Block.{Block, Spot, first}
use Rattle.model.specs.Choose.{Cut}
use Rattle.model.specs.Fit.{Fits}
use Rattle.model.specs.Placing.{Request, Placed, chunk_before, chunk_after, offset_in, take_whole, split_off}

-- ---- the answer, once a chunk is chosen

-- the two accepted answers: a part of the chunk, and the whole of it
abbrev pub piece_in : Request → Spot → Block → Placed
piece_in r z b = record { offset = offset_in r z; id = b.next; block = split_off r z b }

abbrev pub whole_in : Request → Spot → Block → Placed
whole_in r z b = record { offset = offset_in r z; id = z.chunk.id; block = take_whole r z b }

-- ---- the choice

-- whatever it means to have room at an offset in a chunk: the offset in the chunk of z has room, no lower offset there
-- has, no smaller chunk has, and of the chunks of its size none at a lower address has
pub record Lowest (HasRoom : Spot → ℕ → Type 0) (z : Spot) (offset : ℕ) : Type 0 where
  pub room : HasRoom z offset
  pub lowest : (o : ℕ) → HasRoom z o → offset ≤ o
  pub smallest : (y : Spot) (o : ℕ) → HasRoom y o → z.chunk.size ≤ y.chunk.size
  pub earliest : (y : Spot) (o : ℕ) → HasRoom y o → z.chunk.size ≡ y.chunk.size → first z ≤ first y

-- what a choice says: there is no room, or the chunk and its offset are as above
abbrev pub Choice : (Spot → ℕ → Type 0) → Request → Option Spot → Type 0
Choice HasRoom r none = (z : Spot) (o : ℕ) → HasRoom z o → ⊥
Choice HasRoom r (some z) = Lowest HasRoom z (offset_in r z)

-- the request fits, by the tests, at the offset in a free chunk of the block
pub record FitsIn (r : Request) (b : Block) (z : Spot) (offset : ℕ) : Type 0 where
  pub cut : Cut b.chunks z
  pub free : z.chunk.kind ≡ 0
  pub fits : Fits r (first z) z.chunk.size (chunk_before z) (chunk_after z) offset
