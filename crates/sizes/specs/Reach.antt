-- Which sizes the calls can produce, and what it is for a call to accept just those. Assumes nothing.
use Rattle.std.specs.Prelude.{ℕ, ◌^◌, ◌<◌, ◌≡◌}
use Rattle.laws.specs.Reply.{Reply, accepted, refused}
use Rattle.size_ranges.specs.RangeLaws.{Range}
use Rattle.sizes.specs.Sizes.{new_sizes, default_sizes, with_max_device, with_max_host}
use Rattle.sizes.specs.declared.AllocationSizes.{AllocationSizes}

-- the sizes that `new`, the default and the setters give, called with numbers of 64 bits
pub data Reachable : AllocationSizes → Type 0 where
  new : (device host : ℕ) → device < 2 ^ 64 → host < 2 ^ 64 → Reachable (new_sizes device host)
  default : Reachable default_sizes
  device : {s : AllocationSizes} → Reachable s → (size : ℕ) → size < 2 ^ 64 → Reachable (with_max_device s size)
  host : {s : AllocationSizes} → Reachable s → (size : ℕ) → size < 2 ^ 64 → Reachable (with_max_host s size)

-- a range for the device and one for the host
pub record Producible (s : AllocationSizes) : Type 0 where
  pub of_device : Range s.min_device_memblock_size s.max_device_memblock_size
  pub of_host : Range s.min_host_memblock_size s.max_host_memblock_size

-- accepted with these values where some calls give the sizes, and refused with 14 where none do
pub record Exactly {A : Type 0} (s : AllocationSizes) (values : A) (answer : Reply A) : Type 0 where
  pub accepts : Reachable s → answer ≡ accepted values
  pub refuses : (Reachable s → ⊥) → answer ≡ refused 14
