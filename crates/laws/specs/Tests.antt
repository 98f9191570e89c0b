-- Booleans and tests on numbers. Assumes nothing.
use Rattle.std.specs.Prelude.{ℕ, ◌≤◌, ◌<◌, Bool, true, false, not, ◌&&◌, cond, ◌↔◌, ◌≡◌, refl, eqb, ltb}
use Rattle.std.proofs.Common.{arith, sym, ◌∙◌, ne_eqb, ltb-true, ltb-false}
use Rattle.std.proofs.lemmas.Bool.{false≢true, eqb-false, not-true, not-false}

-- both tests of a passed `&&` passed
pub both : (a b : Bool) → (a && b) ≡ true → (a ≡ true) × (b ≡ true)
both true b e = (refl, e)
both false b e = absurd (false≢true e)

-- and two that pass pass together
pub both_pass : {a b : Bool} → a ≡ true → b ≡ true → (a && b) ≡ true
both_pass p q = rw (p, q)

-- what holds of each of two values, given the test's answer, holds of the one that the test picks
pub cond_cases : {A : Type 0} (P : A → Type 0) (t : Bool) {x y : A} → (t ≡ true → P x) → (t ≡ false → P y)
    → P (cond t x y)
cond_cases P true f g = f refl
cond_cases P false f g = g refl

-- a test that picks one of two equal values decides nothing
pub cond_same : {A : Type 0} (t : Bool) (x : A) → cond t x x ≡ x
cond_same true x = refl
cond_same false x = refl

-- what follows `if !f() { return .. }`, where f answers the test b: inside it the test failed, and after it the test passed
pub failed : {t b : Bool} → t ≡ b → not t ≡ true → b ≡ false
failed {t} e n = sym e ∙ not-true t n

pub passed : {t b : Bool} → t ≡ b → not t ≡ false → b ≡ true
passed {t} e n = sym e ∙ not-false t n

-- not both tests pass exactly when the second rules the first out
pub not_both : (a b : Bool) → not (a && b) ≡ true ↔ (b ≡ true → a ≡ false)
not_both true true = (λ e. absurd (false≢true e), λ f. sym (f refl))
not_both true false = (λ e h. absurd (false≢true h), λ f. refl)
not_both false b = (λ e h. refl, λ f. refl)

-- of two numbers in order, to differ is to be less
pub differ_below : {x y : ℕ} → x ≤ y → eqb x y ≡ false ↔ x < y
differ_below {x} {y} l = (
  λ e.
      let n : x ≡ y → ⊥ = eqb-false x y e in
      omega arith,
  λ h. ne_eqb x y (λ (e : x ≡ y). omega arith),
)

-- below or not: what follows either way
pub either : (P : Type 0) (n m : ℕ) → (n < m → P) → (m ≤ n → P) → P
either P n m f g = go (ltb n m) refl
  where
    go : (t : Bool) → ltb n m ≡ t → P
    go true e = f (ltb-true n m e)
    go false e = g (ltb-false n m e)
