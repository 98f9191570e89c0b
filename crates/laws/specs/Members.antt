-- Lists of numbers: whether one is in it, whether they are distinct, whether two lists are the same. Assumes nothing.
use Rattle.std.specs.Prelude.{ℕ, Bool, true, false, not, cond, List, [], ◌∷◌, ◌≢◌, ◌⊎◌, ◌≡◌, refl, eqb, get_or}
use Rattle.std.proofs.lemmas.Bool.{false≢true, eqb-false}
use Rattle.std.proofs.Common.{inl, inr, ap, eqb-true, eq-eqb, ne_eqb}
use Rattle.laws.specs.Every.{every, pass, two, clash}

unfoldable pub has : ℕ → List ℕ → Bool
has a [] = false
has a (b ∷ l) = cond (eqb b a) true (has a l)

unfoldable pub distinct : List ℕ → Bool
distinct [] = true
distinct (a ∷ l) = every (not (has a l) ∷ distinct l ∷ [])

unfoldable pub same : List ℕ → List ℕ → Bool
same [] [] = true
same [] (b ∷ l) = false
same (a ∷ k) [] = false
same (a ∷ k) (b ∷ l) = every (eqb a b ∷ same k l ∷ [])

pub same-eq : (k l : List ℕ) → same k l ≡ true → k ≡ l
unfolding same
same-eq [] [] e = refl
same-eq [] (b ∷ l) e = absurd (false≢true e)
same-eq (a ∷ k) [] e = absurd (false≢true e)
same-eq (a ∷ k) (b ∷ l) e =
    let p : a ≡ b = eqb-true a b (pass _ 0 e) in
    let q : k ≡ l = same-eq k l (pass _ 1 e) in
    cc

pub same_refl : (l : List ℕ) → same l l ≡ true
unfolding same
same_refl [] = refl
same_refl (a ∷ l) = two _ _ (eq-eqb a a refl) (same_refl l)

-- Two lists differ where an element does.
pub not_same : (k l : List ℕ) (j : ℕ) → (get_or k j 0 ≡ get_or l j 0 → ⊥) → same k l ≡ false
not_same k l j f = go (same k l) (same-eq k l)
  where
    go : (t : Bool) → (t ≡ true → k ≡ l) → t ≡ false
    go true g = absurd (f (ap (λ (x : List ℕ). get_or x j 0) (g refl)))
    go false g = refl

pub has-none : (a : ℕ) → has a [] ≡ true → ⊥
unfolding has
has-none a e = false≢true e

pub has-head : (a : ℕ) (l : List ℕ) → has a (a ∷ l) ≡ true
unfolding has
has-head a l = rw (eq-eqb a a refl)

pub has-tail : (a b : ℕ) (l : List ℕ) → has a l ≡ true → has a (b ∷ l) ≡ true
unfolding has
has-tail a b l h = go (eqb b a)
  where
    go : (t : Bool) → cond t true (has a l) ≡ true
    go true = refl
    go false = h

pub has-cases : (a b : ℕ) (l : List ℕ) → has a (b ∷ l) ≡ true → (b ≡ a) ⊎ (has a l ≡ true)
unfolding has
has-cases a b l h = go (eqb b a) (eqb-true b a) h
  where
    go : (t : Bool) → (t ≡ true → b ≡ a) → cond t true (has a l) ≡ true → (b ≡ a) ⊎ (has a l ≡ true)
    go true f h = inl (f refl)
    go false f h = inr h

pub has_other : (a b : ℕ) (l : List ℕ) → b ≢ a → has a (b ∷ l) ≡ has a l
unfolding has
has_other a b l f = rw (ne_eqb b a f)

-- A number that is not in a list is not its head.
pub not_head : (a b : ℕ) (l : List ℕ) → has a (b ∷ l) ≡ false → b ≢ a
not_head a b l e f = clash (rw f (has-head a l)) e

pub has_same : (a b : ℕ) (k l : List ℕ) → has a k ≡ has a l → has a (b ∷ k) ≡ has a (b ∷ l)
unfolding has
has_same a b k l e = ap (λ (t : Bool). cond (eqb b a) true t) e

pub eq_or_not : (a b : ℕ) → (a ≡ b) ⊎ (a ≢ b)
eq_or_not a b = go (eqb a b) (eqb-true a b) (eqb-false a b)
  where
    go : (t : Bool) → (t ≡ true → a ≡ b) → (t ≡ false → a ≢ b) → (a ≡ b) ⊎ (a ≢ b)
    go true f g = inl (f refl)
    go false f g = inr (g refl)
