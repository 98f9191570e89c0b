-- How many of the numbers from 1 to n pass a test, and lists of distinct ones. Assumes nothing.
use Prim.Native.Nat.{ℕ, zero, suc, ◌+◌, ◌≤◌}
use native.Mathlib.Omega.{arith}
use Rattle.std.proofs.Common.{eq-or-lt_of_le, inl, inr, sym, ap, ◌∙◌}
use Rattle.std.specs.Prelude.{Bool, not, ◌≢◌, ◌⊎◌, ◌↔◌, ◌≡◌, refl, length}
use Rattle.std.proofs.Math.Bool.{true, false, cond}
use Rattle.std.proofs.lemmas.Bool.{false≢true, not-true}
use mathlib.Core.List.Memᴰ
use mathlib.Core.List.{List, [], ◌∷◌, Memᴰ}
use Rattle.std.proofs.Math.Logic.{⊎_elim}
use Rattle.laws.specs.Every.{two, pass, cases}
use Rattle.laws.specs.Members.{has, distinct, has-none, has-head, has-tail, has-cases, has_other, not_head}
use Rattle.laws.specs.Lists.{All, Pairwise}

-- how many of the numbers 1 to n pass
unfoldable pub count : (ℕ → Bool) → ℕ → ℕ
count f zero = 0
count f (suc n) = cond (f (suc n)) 1 0 + count f n

-- each is one of the numbers 1 to n
abbrev pub Within : ℕ → List ℕ → Type 0
Within n l = All (λ k. (1 ≤ k) × (k ≤ n)) l

-- ---- one test

pub count-pass : (f : ℕ → Bool) (n : ℕ) → f (suc n) ≡ true → count f (suc n) ≡ suc (count f n)
unfolding count
count-pass f n e = rw e (omega arith)

pub count-fail : (f : ℕ → Bool) (n : ℕ) → f (suc n) ≡ false → count f (suc n) ≡ count f n
unfolding count
count-fail f n e = rw e (omega arith)

-- Not more than all pass.
count-le : (f : ℕ → Bool) (n : ℕ) → count f n ≤ n
unfolding count
count-le f zero = omega arith
count-le f (suc n) =
    ⊎_elim (λ t. omega (arith, count-pass f n t, count-le f n)) (λ t. omega (arith, count-fail f n t, count-le f n))
    (cases (f (suc n)))

count_same : (f g : ℕ → Bool) (n : ℕ) → ((k : ℕ) → k ≤ n → f k ≡ g k) → count f n ≡ count g n
unfolding count
count_same f g zero h = refl
count_same f g (suc n) h =
    let e : f (suc n) ≡ g (suc n) = h (suc n) (omega arith) in
    let r : count f n ≡ count g n = count_same f g n (λ k l. h k (omega arith)) in
    cc

-- A test that one number more passes counts one more.
count-one_more : (f g : ℕ → Bool) (v n : ℕ) → 1 ≤ v → v ≤ n → f v ≡ false → g v ≡ true →
    ((k : ℕ) → k ≢ v → f k ≡ g k) → count g n ≡ suc (count f n)
count-one_more f g v zero low high p q h = absurd (omega arith)
count-one_more f g v (suc n) low high p q h =
    ⊎_elim
    (λ (e : v ≡ suc n).
    let r : count f n ≡ count g n = count_same f g n (λ k l. h k (λ (x : k ≡ v). omega arith)) in
    omega (arith, count-pass g n (ap g (sym e) ∙ q), count-fail f n (ap f (sym e) ∙ p)))
    (λ l.
    let r : count g n ≡ suc (count f n) = count-one_more f g v n low (omega arith) p q h in
    let e : f (suc n) ≡ g (suc n) = h (suc n) (λ (x : suc n ≡ v). omega arith) in
    ⊎_elim (λ t. omega (arith, count-pass f n t, count-pass g n (sym e ∙ t)))
    (λ t. omega (arith, count-fail f n t, count-fail g n (sym e ∙ t)))
    (cases (f (suc n))))
    (eq-or-lt_of_le high)

-- ---- lists of distinct numbers

count_none : (n : ℕ) → count (λ k. has k []) n ≡ 0
unfolding count has
count_none zero = refl
count_none (suc n) = omega (arith, count_none n)

-- A list of distinct numbers from 1 to n has as many as are found in it.
pub count-has : (l : List ℕ) (n : ℕ) → distinct l ≡ true → Within n l → count (λ k. has k l) n ≡ length l
unfolding distinct
count-has [] n d w = count_none n
count-has (v ∷ l) n d w =
    count-one_more (λ k. has k l) (λ k. has k (v ∷ l)) v n w.0.0 w.0.1 (not-true _ (pass _ 0 d)) (has-head v l)
    (λ k h. sym (has_other k v l (λ e. h (sym e))))
    ∙ ap suc (count-has l n (pass _ 1 d) w.1)

-- There are at most n of them.
pub distinct-fits : (l : List ℕ) (n : ℕ) → distinct l ≡ true → Within n l → length l ≤ n
distinct-fits l n d w = omega (arith, count-has l n d w, count-le (λ k. has k l) n)

-- ---- two tests

at_most_one : (a b : Bool) → (a ≡ true → b ≡ false) → cond a 1 0 + cond b 1 0 ≤ 1
at_most_one true b h = rw (h refl) (omega arith)
at_most_one false true h = omega arith
at_most_one false false h = omega arith

one_of : (a b : Bool) → 1 ≤ cond a 1 0 + cond b 1 0 ↔ ((a ≡ true) ⊎ (b ≡ true))
one_of true b = (λ h. inl refl, λ h. omega arith)
one_of false true = (λ h. inr refl, λ h. omega arith)
one_of false false = (λ h. absurd (omega arith), ⊎_elim (λ e. absurd (false≢true e)) (λ e. absurd (false≢true e)))

module _ (f g : ℕ → Bool) where
  -- Two tests that no number passes together count at most n numbers.
  counts-apart : (n : ℕ) → ((k : ℕ) → 1 ≤ k → k ≤ n → f k ≡ true → g k ≡ false) → count f n + count g n ≤ n
  unfolding count
  counts-apart zero h = omega arith
  counts-apart (suc n) h =
      let r : count f n + count g n ≤ n = counts-apart n (λ k low high. h k low (omega arith)) in
      omega (arith, at_most_one (f (suc n)) (g (suc n)) (h (suc n) (omega arith) (omega arith)))

  -- Where they count n, every number passes one of them.
  pub counts-full : (n : ℕ) → ((k : ℕ) → 1 ≤ k → k ≤ n → f k ≡ true → g k ≡ false) → n ≤ count f n + count g n →
      (k : ℕ) → 1 ≤ k → k ≤ n → (f k ≡ true) ⊎ (g k ≡ true)
  unfolding count
  counts-full zero h full k low high = absurd (omega arith)
  counts-full (suc n) h full k low high =
      let apart : (j : ℕ) → 1 ≤ j → j ≤ n → f j ≡ true → g j ≡ false = (λ j l u. h j l (omega arith)) in
      let r : count f n + count g n ≤ n = counts-apart n apart in
      let last : cond (f (suc n)) 1 0 + cond (g (suc n)) 1 0 ≤ 1 =
      at_most_one (f (suc n)) (g (suc n)) (h (suc n) (omega arith) (omega arith)) in
      ⊎_elim (λ (e : k ≡ suc n). rw e ((one_of (f (suc n)) (g (suc n))).0 (omega arith)))
      (λ l. counts-full n apart (omega arith) k low (omega arith))
      (eq-or-lt_of_le high)

  -- Two tests of which every number passes one count n numbers or more.
  pub counts-cover : (n : ℕ) → ((k : ℕ) → 1 ≤ k → k ≤ n → (f k ≡ true) ⊎ (g k ≡ true)) → n ≤ count f n + count g n
  unfolding count
  counts-cover zero h = omega arith
  counts-cover (suc n) h =
      let r : n ≤ count f n + count g n = counts-cover n (λ k low high. h k low (omega arith)) in
      omega (arith, (one_of (f (suc n)) (g (suc n))).1 (h (suc n) (omega arith) (omega arith)))

-- ---- the same, said of elements and of pairs

-- A number is found in a list exactly where it is an element.
pub has-element : (k : ℕ) (l : List ℕ) → has k l ≡ true ↔ Memᴰ k l
has-element k [] = (λ h. absurd (has-none k h), λ m. absurd (Memᴰ.not-nil m))
has-element k (v ∷ l) = (
  λ h. ⊎_elim (λ e. Memᴰ.head (sym e)) (λ t. Memᴰ.tail ((has-element k l).0 t)) (has-cases k v l h),
  λ m.
      ⊎_elim (λ (e : k ≡ v). rw e (has-head v l)) (λ t. has-tail k v l ((has-element k l).1 t)) (Memᴰ.cases_cons m),
)

other : (k : ℕ) (l : List ℕ) → not (has k l) ≡ true ↔ All (λ j. k ≢ j) l
unfolding has
other k [] = (λ e. tt, λ a. refl)
other k (v ∷ l) = (
  λ e.
      let f : v ≢ k = not_head k v l (not-true _ e) in
      (λ x. f (sym x), (other k l).0 (ap not (sym (has_other k v l f)) ∙ e)),
  λ a. ap not (has_other k v l (λ x. a.0 (sym x))) ∙ (other k l).1 a.1,
)

-- Numbers are distinct exactly where every two are.
pub distinct-pairs : (l : List ℕ) → distinct l ≡ true ↔ Pairwise (λ j k. j ≢ k) l
unfolding distinct
distinct-pairs [] = (λ e. tt, λ p. refl)
distinct-pairs (v ∷ l) = (
  λ e. ((other v l).0 (pass _ 0 e), (distinct-pairs l).0 (pass _ 1 e)),
  λ p. two _ _ ((other v l).1 p.0) ((distinct-pairs l).1 p.1),
)
