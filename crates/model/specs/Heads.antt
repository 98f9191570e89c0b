-- What a call keeps of a block's head: its size, its slots and its next id. Definitions. Assumes nothing.
use Rattle.std.specs.Prelude.{◌^◌, ◌≤◌, ◌<◌, ◌≡◌}
use Rattle.model.specs.Block.{Block}

-- what a request keeps of a block: its size and its slots; the next id never falls, and stays a 64-bit word
pub record Heads (b after : Block) : Type 0 where
  pub size : after.size ≡ b.size
  pub slots : after.slots ≡ b.slots
  pub next : b.next ≤ after.next
  pub word : b.next < 2 ^ 64 → after.next < 2 ^ 64

-- the block's size, its slots and its next id are as they were
pub record SameHeads (b after : Block) : Type 0 where
  pub size : after.size ≡ b.size
  pub slots : after.slots ≡ b.slots
  pub next : after.next ≡ b.next
