-- Blocks whose chunks are each in a slot of their own, sound or not. Assumes nothing.
use Rattle.std.specs.Prelude.{◌≤◌}
use Rattle.laws.specs.Lists.{All, Pairwise}
use Rattle.model.specs.Block.{Block}
use Rattle.model.specs.Soundness.{DifferentSlots}

-- each chunk is in a slot of its own, of a table that has 1 to 512
pub record Laid (b : Block) : Type 0 where
  pub slots : (1 ≤ b.slots) × (b.slots ≤ 512)
  pub places : All (λ c. (1 ≤ c.slot) × (c.slot ≤ b.slots)) b.chunks
  pub apart : Pairwise DifferentSlots b.chunks
