-- The paper's examples, by computing. Assumes nothing.
use Rattle.std.specs.Prelude.{true, false, ◌≡◌, refl}
use Rattle.laws.specs.Reply.{accepted, refused}
use Rattle.laws.specs.Rounding.{align_down, align_up}
use Rattle.size_ranges.specs.SizeRanges.{adjust, is_block_size, is_range}
use Rattle.size_ranges.specs.SizeRangesExamples.{mib}
use Rattle.sizes.specs.Sizes.{is_producible, new_sizes, default_sizes, with_max_device, with_max_host, if_producible, set_max_host, memblock_size}
use Rattle.sizes.specs.declared.AllocationSizes.{AllocationSizes}

-- 8 MiB growing to 256 MiB for the device, 4 MiB for the host
growing : AllocationSizes
unfolding memblock_size set_max_host if_producible is_producible is_range is_block_size with_max_device with_max_host new_sizes adjust align_up align_down
growing = with_max_device (new_sizes (mib 8) (mib 4)) (mib 256)

default_is_fixed : new_sizes (mib 256) (mib 64) ≡ default_sizes
unfolding growing
default_is_fixed = refl

first : memblock_size growing false 0 ≡ accepted (mib 8)
unfolding growing
first = refl

second : memblock_size growing false 1 ≡ accepted (mib 16)
unfolding growing
second = refl

sixth : memblock_size growing false 5 ≡ accepted (mib 256)
unfolding growing
sixth = refl

tenth : memblock_size growing false 9 ≡ accepted (mib 256)
unfolding growing
tenth = refl

-- The host's blocks go by the host's sizes.
host_block : memblock_size growing true 5 ≡ accepted (mib 4)
unfolding growing
host_block = refl

-- A maximum below the minimum becomes the minimum.
never_below : set_max_host default_sizes (mib 4) ≡ accepted default_sizes
unfolding growing
never_below = refl

zeros : AllocationSizes
zeros = record { min_device_memblock_size = 0; max_device_memblock_size = 0; min_host_memblock_size = 0; max_host_memblock_size = 0 }

not_produced : memblock_size zeros false 0 ≡ refused 14
unfolding growing zeros
not_produced = refl
