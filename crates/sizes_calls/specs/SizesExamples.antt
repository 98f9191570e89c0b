-- What crosses the boundary of block sizes, by computing. Assumes nothing.
use Rattle.std.specs.Prelude.{◌*◌, ◌^◌, true, false, [], ◌∷◌, ◌≡◌, refl}
use Rattle.laws.specs.Reply.{accepted, refused}
use Rattle.sizes.specs.Sizes.{sizes_of, words, default_sizes}
use Rattle.sizes_calls.specs.SizesCalls.{sizes_out, is_host}

-- Four numbers in and four words out are in the same order, device before host and minimum before maximum.
in_order : sizes_out (accepted (sizes_of 1 2 3 4)) ≡ (0, 1 ∷ 2 ∷ 3 ∷ 4 ∷ [])
in_order = refl

device_first : words default_sizes ≡ 256 * 2 ^ 20 ∷ 256 * 2 ^ 20 ∷ 64 * 2 ^ 20 ∷ 64 * 2 ^ 20 ∷ []
device_first = refl

minimum_first : (sizes_of 1 2 3 4).max_host_memblock_size ≡ 4
minimum_first = refl

sizes_refused : sizes_out (refused 14) ≡ (14, 0 ∷ 0 ∷ 0 ∷ 0 ∷ [])
sizes_refused = refl

device_asked : is_host 0 ≡ false
device_asked = refl

host_asked : is_host 2 ≡ true
host_asked = refl
