-- Which sizes the calls can produce, and that those are the sizes that the calls accept. Assumes nothing.
use Rattle.std.specs.Prelude.{ℕ, Bool, true, false, ◌≡◌, refl}
use Rattle.std.proofs.Common.{subst}
use Rattle.laws.specs.Tests.{both}
use Rattle.size_ranges.specs.SizeRanges.{is_block_size, is_range}
use Rattle.size_ranges.specs.RangeLaws.{range-told, range-tested, fixed, widened, settled, topped, word}
use Rattle.sizes.specs.Sizes.{is_producible, new_sizes, default_sizes, with_max_device, with_max_host, if_producible, set_max_device, set_max_host, next_size, memblock_size}
use Rattle.sizes.specs.Reach.{Reachable, Producible, Exactly}
use Rattle.sizes.specs.Reach.Reachable.{new, default, device, host}
use Rattle.sizes.specs.declared.AllocationSizes.{AllocationSizes}

-- ---- what the tests say
pub told : (s : AllocationSizes) → is_producible s ≡ true → Producible s
unfolding is_producible
told s e =
    let p = both (is_range s.min_device_memblock_size s.max_device_memblock_size) (is_range s.min_host_memblock_size s.max_host_memblock_size) e in
    record { of_device = range-told p.0; of_host = range-told p.1 }

tested : {s : AllocationSizes} → Producible s → is_producible s ≡ true
unfolding is_producible
tested p = rw (range-tested p.of_device, range-tested p.of_host)

-- ---- what the calls give
-- the default passes the test by computing
default_accepted : is_producible default_sizes ≡ true
unfolding is_producible is_range is_block_size
default_accepted = refl

produced : {s : AllocationSizes} → Reachable s → Producible s
unfolding new_sizes with_max_device with_max_host
produced (new d h _ _) = record { of_device = fixed d; of_host = fixed h }
produced default = told default_sizes default_accepted
produced (device r size _) = let p = produced r in record { of_device = widened size p.of_device; of_host = p.of_host }
produced (host r size _) = let p = produced r in record { of_device = p.of_device; of_host = widened size p.of_host }

-- ---- which calls give what
-- both minima, then each maximum
calls : AllocationSizes → AllocationSizes
calls s = with_max_host (with_max_device (new_sizes s.min_device_memblock_size s.min_host_memblock_size) s.max_device_memblock_size) s.max_host_memblock_size

calls_give : (s : AllocationSizes) → Producible s → calls s ≡ s
unfolding calls with_max_host with_max_device new_sizes
calls_give s p =
    λ i. record {
      min_device_memblock_size = settled p.of_device.from i;
      max_device_memblock_size = topped p.of_device i;
      min_host_memblock_size = settled p.of_host.from i;
      max_host_memblock_size = topped p.of_host i;
    }

calls_reach : (s : AllocationSizes) → Producible s → Reachable (calls s)
unfolding calls
calls_reach s p =
    host (device (new _ _ (word p.of_device.from) (word p.of_host.from)) _ (word p.of_device.to)) _ (word p.of_host.to)

-- ---- the accepted sizes are the reachable ones
-- Whatever the calls give is accepted.
pub reachable_accepted : {s : AllocationSizes} → Reachable s → is_producible s ≡ true
reachable_accepted r = tested (produced r)

-- Whatever is accepted, some calls give.
pub accepted_reachable : (s : AllocationSizes) → is_producible s ≡ true → Reachable s
accepted_reachable s e = let p = told s e in subst Reachable (calls_give s p) (calls_reach s p)

-- ---- what each call answers on which sizes
exactly : {A : Type 0} (s : AllocationSizes) (values : A) → Exactly s values (if_producible s values)
unfolding if_producible
exactly s values = record { accepts = λ r. rw (reachable_accepted r); refuses = λ n. rw (not-accepted (is_producible s) refl n) }
  where
    not-accepted : (t : Bool) → is_producible s ≡ t → (Reachable s → ⊥) → is_producible s ≡ false
    not-accepted true e n = absurd (n (accepted_reachable s e))
    not-accepted false e n = e

-- Setting the maximum of device blocks.
pub device_exactly : (s : AllocationSizes) (size : ℕ) → Exactly s (with_max_device s size) (set_max_device s size)
unfolding set_max_device
device_exactly s size = exactly s (with_max_device s size)

-- Setting the maximum of host blocks.
pub host_exactly : (s : AllocationSizes) (size : ℕ) → Exactly s (with_max_host s size) (set_max_host s size)
unfolding set_max_host
host_exactly s size = exactly s (with_max_host s size)

-- Asking for the next block's size.
pub size_exactly : (s : AllocationSizes) (is-host : Bool) (count : ℕ) → Exactly s (next_size s is-host count) (memblock_size s is-host count)
unfolding memblock_size
size_exactly s is-host count = exactly s (next_size s is-host count)
