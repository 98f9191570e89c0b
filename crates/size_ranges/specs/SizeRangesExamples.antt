-- The paper's examples of adjusted sizes, by computing. Assumes nothing.
use Rattle.std.specs.Prelude.{ℕ, ◌*◌, ◌^◌, ◌≡◌, refl}
use Rattle.laws.specs.Rounding.{align_down, align_up}
use Rattle.size_ranges.specs.SizeRanges.{adjust}

-- so many MiB
abbrev pub mib : ℕ → ℕ
mib n = n * 2 ^ 20

between : adjust (mib 5) ≡ mib 8
unfolding adjust align_up align_down
between = refl

above : adjust (mib 257) ≡ mib 256
unfolding adjust align_up align_down
above = refl

below : adjust 0 ≡ mib 4
unfolding adjust align_up align_down
below = refl
