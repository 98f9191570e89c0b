-- The whole number nearest to a quotient, of two equally near the even one. Theorems. Assumes nothing.
use Rattle.std.specs.Prelude.{ℕ, ◌+◌, ◌*◌, zero, suc, ◌/◌, ◌%◌, ◌≤◌, ◌<◌, ◌≡◌, refl, Bool, true, false, ltb}
use Rattle.std.proofs.Common.{ap, ◌∙◌, div-add-mod', mod-lt, mul-le-mul_right, add-mul, one-mul, add-zero, arith, ltb-true, ltb-false}
use Rattle.std.proofs.Math.Nat.{eq_of_mul-eq-mul_right}
use Rattle.laws.specs.Nearest.{nearest, Nearest}

-- One more of d.
more : (q d : ℕ) → (q + 1) * d ≡ q * d + d
more q d = add-mul q 1 d ∙ ap (λ x. q * d + x) (one-mul d)

-- At one half the even of q and q + 1 is nearest.
tie : (n d q r : ℕ) → q * d + r ≡ n → 2 * r ≡ d → (m : ℕ) → q % 2 ≡ m → Nearest n d (q + m)
tie n d q r e t zero p = rw add-zero (record { near = omega arith; even = omega arith })
tie n d q r e t (suc zero) p = record { near = omega (arith, more q d); even = omega arith }
tie n d q r e t (suc (suc m)) p = absurd (omega arith)

-- `nearest n d` is such a number.
pub nearest-is : (n d : ℕ) → 0 < d → Nearest n d (nearest n d)
unfolding nearest
nearest-is n d h = go (ltb (2 * (n % d)) d) (ltb d (2 * (n % d))) refl refl
  where
    e : n / d * d + n % d ≡ n
    e = div-add-mod' n d

    b : n % d < d
    b = mod-lt n h

    go : (low high : Bool) → ltb (2 * (n % d)) d ≡ low → ltb d (2 * (n % d)) ≡ high → Nearest n d (nearest n d)
    go true high l u = rw l (record { near = omega (arith, ltb-true, e, b); even = omega (arith, ltb-true, e, b) })
    go false true l u =
        rw (l, u) (record {
          near = omega (arith, ltb-true, e, b, more (n / d) d);
          even = omega (arith, ltb-true, e, b, more (n / d) d);
        })
    go false false l u = rw (l, u) (tie n d (n / d) (n % d) e (omega (arith, ltb-false)) (n / d % 2) refl)

-- Of two such numbers neither is less.
none_less : (n d h k : ℕ) → 0 < d → Nearest n d h → Nearest n d k → h < k → ⊥
none_less n d h k pos a b l =
    let step : (h + 1) * d ≤ k * d = mul-le-mul_right d (omega arith) in
    let next : k ≡ h + 1 = eq_of_mul-eq-mul_right d pos k (h + 1) (omega (arith, more h d)) in
    omega (arith, more h d, a.even (omega (arith, more h d)), b.even (omega (arith, more h d)))

-- It is the only one.
pub nearest-only : (n d h : ℕ) → 0 < d → Nearest n d h → h ≡ nearest n d
nearest-only n d h pos a =
    let b : Nearest n d (nearest n d) = nearest-is n d pos in
    let below : ¬ (h < nearest n d) = none_less n d h (nearest n d) pos a b in
    let above : ¬ (nearest n d < h) = none_less n d (nearest n d) h pos b a in
    omega arith
