-- The mask form of rounding down, as the Rust and Vulkan write it. Assumes nothing.
use Rattle.std.specs.Prelude.{ℕ, ◌+◌, ◌-◌, ◌%◌, ◌^◌, ◌<◌, ◌≡◌}
use Rattle.std.proofs.Common.{arith, ap, subst, ◌∙◌, pow_pos}
use Rattle.std.specs.Int.Bits.{bit_and}
use Rattle.std.proofs.lemmas.Nat.Bits.{and_high}
use Rattle.std.proofs.Math.Pow.{recompose}
use Rattle.laws.specs.Powers.{Pow64}
use Rattle.laws.specs.Rounding.{align_down, align_up}

-- `!y` on a 64-bit word
abbrev pub complement : ℕ → ℕ
complement y = 2 ^ 64 - 1 - y

-- `x & !(a - 1)` on 64-bit words
unfoldable pub mask : ℕ → ℕ → ℕ
mask x a = bit_and x (complement (a - 1))

high_mask : (x j k : ℕ) → x < 2 ^ (j + k) → bit_and x (2 ^ (j + k) - 1 - (2 ^ k - 1)) ≡ x - x % 2 ^ k
high_mask x j k h =
    let e : 2 ^ (j + k) - 1 - (2 ^ k - 1) ≡ 2 ^ (j + k) - 2 ^ k = omega (arith, pow_pos k) in
    ap (λ (m : ℕ). bit_and x m) e ∙ and_high x j k ∙ omega (arith, recompose j k h)

-- On a power of two the mask is the remainder form, x - x % a.
pub mask-down : (x : ℕ) {a : ℕ} → x < 2 ^ 64 → Pow64 a → mask x a ≡ align_down x a
unfolding mask align_down
mask-down x {a} h p =
    let k = p.0 in
    let s : 64 - k + k ≡ 64 = omega (arith, p.1) in
    rw p.2 (subst (λ (n : ℕ). x < 2 ^ n → bit_and x (2 ^ n - 1 - (2 ^ k - 1)) ≡ x - x % 2 ^ k) s (high_mask x (64 - k) k) h)

-- So the Rust's two functions are rounding down and rounding up.
pub mask_up : (x : ℕ) {a : ℕ} → x + (a - 1) < 2 ^ 64 → Pow64 a → mask (x + (a - 1)) a ≡ align_up x a
unfolding align_up
mask_up x {a} h p = mask-down (x + (a - 1)) h p
