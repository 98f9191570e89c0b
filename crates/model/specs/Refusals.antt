-- Exactly when a request is refused, and with which number. Definitions. Assumes nothing.
use Prim.Native.Nat.{ℕ, ◌+◌, ◌<◌}
use Rattle.model.specs.Block.{Block, Spot, first}
use Rattle.model.specs.Placing.{Request}
use Rattle.model.specs.Put.{Lowest}
use Rattle.model.specs.Room.{Room}

-- ---- what becomes of a well-formed request that has room

-- the chunk at the request's place has more bytes than padding and size come to: it is to be split
pub record Splits (r : Request) (b : Block) : Type 0 where
  pub spot : Spot
  pub offset : ℕ
  pub best : Lowest (Room r b) spot offset
  pub larger : offset + r.size < first spot + spot.chunk.size
