-- The size of one block: what adjusting, the tests and the growth answer. Assumes nothing.
use Rattle.std.specs.Prelude.{ℕ, ◌*◌, ◌%◌, ◌^◌, min, max, Bool, ◌&&◌, leb, eqb}
use Rattle.laws.specs.Rounding.{align_up}

abbrev pub MiB : ℕ
MiB = 1024 * 1024

-- brought between 4 MiB and 256 MiB
abbrev pub clamp : ℕ → ℕ
clamp size = min (max size (4 * MiB)) (256 * MiB)

-- clamped, then rounded up to 4 MiB
unfoldable pub adjust : ℕ → ℕ
adjust size = align_up (clamp size) (4 * MiB)

-- what adjusting can give: a multiple of 4 MiB from 4 MiB to 256 MiB
unfoldable pub is_block_size : ℕ → Bool
is_block_size size = leb (4 * MiB) size && (leb size (256 * MiB) && eqb (size % (4 * MiB)) 0)

-- two block sizes, the minimum not above the maximum
unfoldable pub is_range : ℕ → ℕ → Bool
is_range least most = is_block_size least && (is_block_size most && leb least most)

-- the minimum doubled with each block there is, seven times at most, capped at the maximum
abbrev pub grown : ℕ → ℕ → ℕ → ℕ
grown least most count = min (least * 2 ^ min count 7) most
