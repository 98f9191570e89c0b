-- When the record of a dedicated block is sound. Assumes nothing.
use Rattle.std.specs.Prelude.{◌≤◌, ◌⊎◌, ◌≡◌}
use Rattle.dedicated.specs.declared.record.DedicatedBlock.{DedicatedBlock}

-- the size is at least 1, and allocated is 0 or the size
pub record Sound (d : DedicatedBlock) : Type 0 where
  pub size : 1 ≤ d.size
  pub allocated : (d.allocated ≡ 0) ⊎ (d.allocated ≡ d.size)
