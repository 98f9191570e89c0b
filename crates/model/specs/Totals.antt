-- The bytes of a block stay, and `allocated` moves by the bytes of the one chunk that a call is about. Definitions. Assumes nothing.
use Rattle.std.specs.Prelude.{ℕ, ◌+◌, ◌≡◌}
use Rattle.model.specs.Block.{Block, Spot, allocated, first}
use Rattle.model.specs.Choose.{Cut}
use Rattle.model.specs.Effects.{LiveIn}
use Rattle.model.specs.Handed.{Live}
use Rattle.model.specs.Placing.{Request, Placed}

-- ---- the calls

-- a chunk of the block after is live for the request, padding included, and `allocated` rose by its bytes
pub record Rise (r : Request) (b : Block) (p : Placed) : Type 0 where
  pub spot : Spot
  pub cut : Cut p.block.chunks spot
  pub live : Live r p (first spot) spot.chunk
  pub allocated : allocated p.block.chunks ≡ allocated b.chunks + spot.chunk.size

-- the live chunk with the id is given back, and `allocated` fell by its bytes
pub record Fall (id : ℕ) (b after : Block) : Type 0 where
  pub spot : Spot
  pub live : LiveIn id b spot
  pub allocated : allocated after.chunks + spot.chunk.size ≡ allocated b.chunks
