-- Lists of tests, of which all must pass. Assumes nothing.
use Rattle.std.specs.Prelude.{ℕ, zero, suc, Bool, true, false, cond, List, [], ◌∷◌, ◌⊎◌, ◌≡◌, refl, get_or}
use Rattle.std.proofs.Common.{true≢false, inl, inr, sym, ◌∙◌}
use Rattle.std.proofs.lemmas.Bool.{false≢true}

-- every test of the list passes
unfoldable pub every : List Bool → Bool
every [] = true
every (a ∷ l) = cond a (every l) false

-- All pass: so does test i.
pub pass : (l : List Bool) (i : ℕ) → every l ≡ true → get_or l i true ≡ true
unfolding every
pass [] i e = refl
pass (true ∷ l) zero e = refl
pass (true ∷ l) (suc i) e = pass l i e
pass (false ∷ l) i e = absurd (false≢true e)

-- Test i fails: so do they all.
pub fail : (l : List Bool) (i : ℕ) → get_or l i true ≡ false → every l ≡ false
unfolding every
fail [] i e = e
fail (true ∷ l) zero e = absurd (true≢false e)
fail (true ∷ l) (suc i) e = fail l i e
fail (false ∷ l) i e = refl

-- A list of passed tests, one by one.
pub none : every [] ≡ true
unfolding every
none = refl

pub more : (a : Bool) (l : List Bool) → a ≡ true → every l ≡ true → every (a ∷ l) ≡ true
unfolding every
more a l p q = rw p q

pub two : (a b : Bool) → a ≡ true → b ≡ true → every (a ∷ b ∷ []) ≡ true
two a b p q = more a (b ∷ []) p (more b [] q none)

-- A passed test is left out, and the last one decides.
pub rest : (a : Bool) (l : List Bool) → a ≡ true → every (a ∷ l) ≡ every l
unfolding every
rest a l e = rw e

pub last : (a : Bool) → every (a ∷ []) ≡ a
unfolding every
last true = refl
last false = refl

pub second : (a b : Bool) → a ≡ true → every (a ∷ b ∷ []) ≡ b
second a b e = rest a (b ∷ []) e ∙ last b

pub cases : (b : Bool) → (b ≡ true) ⊎ (b ≡ false)
cases true = inl refl
cases false = inr refl

pub clash : {a : Bool} → a ≡ true → a ≡ false → ⊥
clash p q = true≢false (sym p ∙ q)

-- Two tests that pass together are equal.
pub together : (a b : Bool) → (a ≡ true → b ≡ true) → (b ≡ true → a ≡ true) → a ≡ b
together true b f g = sym (f refl)
together false true f g = g refl
together false false f g = refl
