-- Powers, and how a count of bits tells those of two. Assumes nothing.
use Rattle.std.specs.Prelude.{ℕ, zero, suc, ◌+◌, ◌-◌, ◌*◌, ◌/◌, ◌%◌, ◌^◌, ◌≤◌, ◌<◌, ◌≡◌, refl, ◌⊎◌}
use Rattle.std.proofs.Common.{mod-lt, lt_of_not-le, not-le_of_lt, le_of_suc-le-suc, add-sub_of_le, div-lt_iff_lt-mul, pow-suc, arith, sym, ap, ◌∙◌, inl, inr, lit<, pow_pos, pow_mono, pow-add}
use Rattle.std.proofs.Math.Nat.{mul-mod_right}
use Rattle.std.proofs.Math.Arith.{bin_ind}
use Rattle.std.specs.Int.Count.{ones, ones_step, ones-ones}
use Rattle.std.proofs.lemmas.Nat.{ones_cat}
use Rattle.std.proofs.Math.Pow.{pow-lt}

-- x is a power of two
abbrev pub Pow2 : ℕ → Type 0
Pow2 x = (k : ℕ) × (x ≡ 2 ^ k)

-- x is a power of two that fits a 64-bit word
abbrev pub Pow64 : ℕ → Type 0
Pow64 x = (k : ℕ) × (k < 64) × (x ≡ 2 ^ k)

pub pow2_pos : {x : ℕ} → Pow2 x → 0 < x
pow2_pos p = rw p.1 (pow_pos p.0)

-- The smaller of two powers of two divides the larger.
pub pow2_divides : {a g : ℕ} → Pow2 a → Pow2 g → a ≤ g → g % a ≡ 0
pow2_divides {a} {g} p q h =
    let l : p.0 ≤ q.0 = le_of_suc-le-suc (lt_of_not-le (λ n. not-le_of_lt (pow-lt n) (rw (← p.1, ← q.1) h))) in
    let e : g ≡ a * 2 ^ (q.0 - p.0) =
    q.1 ∙ ap (λ (x : ℕ). 2 ^ x) (sym (add-sub_of_le l)) ∙ pow-add 2 p.0 (q.0 - p.0) ∙ rw (← p.1) in
    rw e (mul-mod_right a _)

even_or_odd : (x : ℕ) → (x % 2 ≡ 0) ⊎ (x % 2 ≡ 1)
even_or_odd x = go (x % 2) (mod-lt x (lit< tt))
  where
    go : (r : ℕ) → r < 2 → (r ≡ 0) ⊎ (r ≡ 1)
    go zero h = inl refl
    go (suc zero) h = inr refl
    go (suc (suc r)) h = absurd (omega arith)

no_bit : (x : ℕ) → ones x ≡ 0 → x ≡ 0
no_bit = bin_ind (λ (x : ℕ). ones x ≡ 0 → x ≡ 0) (λ e. refl) step
  where
    step : (n : ℕ) → (ones (n / 2) ≡ 0 → n / 2 ≡ 0) → ones n ≡ 0 → n ≡ 0
    step n ih e = let f : n / 2 ≡ 0 = ih (omega (arith, ones_step n)) in omega (arith, ones_step n)

-- A number with exactly one bit set is a power of two.
pub pow2_of_ones : (x : ℕ) → ones x ≡ 1 → Pow2 x
pow2_of_ones = bin_ind (λ (x : ℕ). ones x ≡ 1 → Pow2 x) (λ e. absurd (omega (arith, ones-ones 0))) step
  where
    step : (n : ℕ) → (ones (n / 2) ≡ 1 → Pow2 (n / 2)) → ones n ≡ 1 → Pow2 n
    step n ih e = go (even_or_odd n)
      where
        go : (n % 2 ≡ 0) ⊎ (n % 2 ≡ 1) → Pow2 n
        go (inl z) = let p = ih (omega (arith, ones_step n)) in (suc p.0, omega (arith, p.1))
        go (inr o) = let f : n / 2 ≡ 0 = no_bit (n / 2) (omega (arith, ones_step n)) in (0, omega arith)

-- A power of two has exactly one bit set.
pub ones_of_pow2 : (x : ℕ) → Pow2 x → ones x ≡ 1
unfolding ones
ones_of_pow2 x p = let e : x ≡ 1 * 2 ^ p.0 + 0 = omega (arith, p.1) in ap ones e ∙ ones_cat p.0 1 0 (pow_pos p.0)

-- Below 2 ^ 64 the exponent is below 64.
pub pow64 : {x : ℕ} → Pow2 x → x < 2 ^ 64 → Pow64 x
pow64 {x} p h = (p.0, lt_of_not-le (λ l. not-le_of_lt h (rw p.1 (pow_mono l))), p.1)

-- A number below b ^ (k + 1) has a quotient by b below b ^ k.
pub fewer : (b k n : ℕ) → 0 < b → n < b ^ suc k → n / b < b ^ k
fewer b k n pos h = (div-lt_iff_lt-mul pos).1 (rw pow-suc at h)
