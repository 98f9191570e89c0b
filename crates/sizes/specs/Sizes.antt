-- The sizes of memory blocks: what each call answers. Assumes nothing.
use Rattle.std.specs.Prelude.{ℕ, ◌*◌, max, Bool, true, false, cond, ◌&&◌, List, [], ◌∷◌, get_or}
use Rattle.laws.specs.Reply.{Reply, accepted, refused}
use Rattle.size_ranges.specs.SizeRanges.{MiB, adjust, is_range, grown}
use Rattle.sizes.specs.declared.AllocationSizes.{AllocationSizes}

-- the sizes that four numbers stand for
abbrev pub sizes_of : ℕ → ℕ → ℕ → ℕ → AllocationSizes
sizes_of min-device max-device min-host max-host = record {
  min_device_memblock_size = min-device;
  max_device_memblock_size = max-device;
  min_host_memblock_size = min-host;
  max_host_memblock_size = max-host;
}

-- the same of four numbers in a list
abbrev pub numbered : List ℕ → AllocationSizes
numbered ns = sizes_of (get_or ns 0 0) (get_or ns 1 0) (get_or ns 2 0) (get_or ns 3 0)

-- the four words that stand for sizes
abbrev pub words : AllocationSizes → List ℕ
words s = s.min_device_memblock_size ∷ s.max_device_memblock_size ∷ s.min_host_memblock_size ∷ s.max_host_memblock_size ∷ []

-- each maximum begins as its minimum
unfoldable pub new_sizes : ℕ → ℕ → AllocationSizes
new_sizes device host = record {
  min_device_memblock_size = adjust device;
  max_device_memblock_size = adjust device;
  min_host_memblock_size = adjust host;
  max_host_memblock_size = adjust host;
}

abbrev pub default_sizes : AllocationSizes
default_sizes = record {
  min_device_memblock_size = 256 * MiB;
  max_device_memblock_size = 256 * MiB;
  min_host_memblock_size = 64 * MiB;
  max_host_memblock_size = 64 * MiB;
}

-- the four sizes are such that the calls can produce them (proved in `Reach`)
unfoldable pub is_producible : AllocationSizes → Bool
is_producible s = is_range s.min_device_memblock_size s.max_device_memblock_size && is_range s.min_host_memblock_size s.max_host_memblock_size

-- the sizes with another maximum for device blocks, never below the minimum
unfoldable pub with_max_device : AllocationSizes → ℕ → AllocationSizes
with_max_device s size = record {
  min_device_memblock_size = s.min_device_memblock_size;
  max_device_memblock_size = max (adjust size) s.min_device_memblock_size;
  min_host_memblock_size = s.min_host_memblock_size;
  max_host_memblock_size = s.max_host_memblock_size;
}

-- the sizes with another maximum for host blocks, never below the minimum
unfoldable pub with_max_host : AllocationSizes → ℕ → AllocationSizes
with_max_host s size = record {
  min_device_memblock_size = s.min_device_memblock_size;
  max_device_memblock_size = s.max_device_memblock_size;
  min_host_memblock_size = s.min_host_memblock_size;
  max_host_memblock_size = max (adjust size) s.min_host_memblock_size;
}

-- sizes that the calls can't produce are refused with 14
unfoldable pub if_producible : {A : Type 0} → AllocationSizes → A → Reply A
if_producible s answer = cond (is_producible s) (accepted answer) (refused 14)

unfoldable pub set_max_device : AllocationSizes → ℕ → Reply AllocationSizes
set_max_device s size = if_producible s (with_max_device s size)

unfoldable pub set_max_host : AllocationSizes → ℕ → Reply AllocationSizes
set_max_host s size = if_producible s (with_max_host s size)

-- the size of the next block, where there are `count`
abbrev pub next_size : AllocationSizes → Bool → ℕ → ℕ
next_size s true count = grown s.min_host_memblock_size s.max_host_memblock_size count
next_size s false count = grown s.min_device_memblock_size s.max_device_memblock_size count

unfoldable pub memblock_size : AllocationSizes → Bool → ℕ → Reply ℕ
memblock_size s host count = if_producible s (next_size s host count)
