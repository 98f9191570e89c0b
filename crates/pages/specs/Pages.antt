-- The tests of alignments, pages and kinds. Assumes nothing.
use Rattle.std.specs.Prelude.{ℕ, ◌+◌, ◌-◌, ◌^◌, ◌<◌, Bool, true, not, ◌&&◌, ◌↔◌, ◌≡◌, eqb}
use Rattle.std.proofs.Common.{eqb-true, eq-eqb}
use Rattle.std.specs.Int.Count.{ones}
use Rattle.laws.specs.Powers.{Pow64, pow2_pos, pow2_of_ones, ones_of_pow2, pow64}
use Rattle.laws.specs.Rounding.{align_down}

-- exactly one bit is set
unfoldable pub is_power_of_two : ℕ → Bool
is_power_of_two x = eqb (ones x) 1

-- the last byte of A and the first byte of B lie on one page
unfoldable pub is_on_same_page : ℕ → ℕ → ℕ → ℕ → Bool
is_on_same_page offset-a size-a offset-b page-size = eqb (align_down (offset-a + size-a - 1) page-size) (align_down offset-b page-size)

-- both kinds are live, and they differ
unfoldable pub has_granularity_conflict : ℕ → ℕ → Bool
has_granularity_conflict type0 type1 = not (eqb type0 0) && (not (eqb type1 0) && not (eqb type0 type1))

-- A number with exactly one bit set is not 0.
pub power_pos : {x : ℕ} → is_power_of_two x ≡ true → 0 < x
unfolding is_power_of_two
power_pos {x} e = pow2_pos (pow2_of_ones x (eqb-true _ _ e))

-- A 64-bit word has exactly one bit set exactly when it is 2 ^ k for some k below 64.
pub power_of_two : (x : ℕ) → x < 2 ^ 64 → is_power_of_two x ≡ true ↔ Pow64 x
unfolding is_power_of_two
power_of_two x h = (λ e. pow64 (pow2_of_ones x (eqb-true _ _ e)) h, λ p. eq-eqb _ _ (ones_of_pow2 x (p.0, p.2)))
