-- Rounding to a multiple, down and up. Theorems. Assumes nothing.
use Rattle.std.specs.Prelude.{ℕ, suc, ◌+◌, ◌-◌, ◌*◌, ◌/◌, ◌%◌, ◌≤◌, ◌<◌, ◌≡◌}
use Rattle.std.proofs.Common.{div-add-mod', mul_assoc, div-lt_iff_lt-mul, le-div_iff_mul-le, div-mul-le_self, mul-le-mul_right, le_trans, arith, ap, ◌∙◌}
use Rattle.std.proofs.Math.Nat.{mul-mod_left, lt-div-mul-add}
use Rattle.laws.specs.Rounding.{align_down, align_up, GreatestMultiple, LeastMultiple}

-- Rounding down keeps the whole part of the quotient.
pub down_quotient : (x a : ℕ) → align_down x a ≡ x / a * a
unfolding align_down
down_quotient x a = omega (arith, div-add-mod' x a)

exact : (m a : ℕ) → m % a ≡ 0 → m / a * a ≡ m
exact m a e = omega (arith, div-add-mod' m a)

-- Rounding down gives the greatest multiple at or below.
pub down_greatest : (x : ℕ) {a : ℕ} → 0 < a → GreatestMultiple x a (align_down x a)
down_greatest x {a} h = rw down_quotient (record {
  multiple = mul-mod_left (x / a) a;
  below = div-mul-le_self x a;
  greatest = λ m e l.
      let q : m / a ≤ x / a = (le-div_iff_mul-le h).1 (omega (arith, exact m a e)) in
      omega (arith, mul-le-mul_right a q, exact m a e);
})

-- Rounding up gives the least multiple at or above.
pub up_least : (x : ℕ) {a : ℕ} → 0 < a → LeastMultiple x a (align_up x a)
unfolding align_up
up_least x {a} h = rw down_quotient (record {
  multiple = mul-mod_left ((x + (a - 1)) / a) a;
  above = omega (arith, lt-div-mul-add {a = x + (a - 1)} h);
  least = λ m e l.
      let q : (x + (a - 1)) / a < suc (m / a) = (div-lt_iff_lt-mul h).1 (omega (arith, exact m a e)) in
      let w : (x + (a - 1)) / a ≤ m / a = omega arith in
      omega (arith, mul-le-mul_right a w, exact m a e);
})

-- Rounding down keeps the order.
pub down_mono : {x y a : ℕ} → 0 < a → x ≤ y → align_down x a ≤ align_down y a
down_mono {x} {y} {a} h l = let d = down_greatest x h in (down_greatest y h).greatest (align_down x a) d.multiple (le_trans d.below l)

-- A multiple of g is a multiple of what divides g.
pub multiple_trans : (m g a : ℕ) → m % g ≡ 0 → g % a ≡ 0 → m % a ≡ 0
multiple_trans m g a p q =
    let e : m / g * (g / a) * a ≡ m =
    mul_assoc (m / g) (g / a) a ∙ ap (λ (x : ℕ). m / g * x) (exact g a q) ∙ exact m g p in
    rw e at (mul-mod_left (m / g * (g / a)) a)
