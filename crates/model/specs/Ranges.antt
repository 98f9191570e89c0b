-- The ranges that remain where those with an id are given back. Assumes nothing.
use Rattle.std.specs.Prelude.{ℕ, ◌↔◌, ◌≢◌, ◌≡◌, eqb}
use mathlib.Core.List.{List, [], ◌∷◌, Memᴰ}
use Rattle.std.proofs.Common.{⊎_elim, sym, ap, ◌∙◌, eqb-true}
use Rattle.std.proofs.lemmas.Bool.{eqb-false}
use Rattle.laws.specs.Lists.{All, Pairwise}
use Rattle.laws.specs.Tests.{cond_cases}
use Rattle.model.specs.Runs.{Range, without}

-- two ranges have different ids
abbrev pub DifferentNames : Range → Range → Type 0
DifferentNames x y = x.id ≢ y.id

-- The ranges that remain are those that were there and have another id.
pub in_without : (id : ℕ) (xs : List Range) (y : Range)
    → Memᴰ y (without id xs) ↔ (Memᴰ y xs × (y.id ≢ id))
in_without id [] y = (λ m. absurd (mathlib.Core.List.Memᴰ.not-nil m), λ m. absurd (mathlib.Core.List.Memᴰ.not-nil m.0))
in_without id (x ∷ xs) y =
    let later = in_without id xs y in
    let more : Memᴰ y (without id xs) → Memᴰ y (x ∷ xs) × (y.id ≢ id) =
    λ k. (mathlib.Core.List.Memᴰ.tail (later.0 k).0, (later.0 k).1) in
    cond_cases (λ l. Memᴰ y l ↔ (Memᴰ y (x ∷ xs) × (y.id ≢ id))) (eqb x.id id)
    (λ e. (
      more,
      λ k.
          ⊎_elim (λ (q : y ≡ x). absurd (k.1 (ap (λ (u : Range). u.id) q ∙ eqb-true _ _ e)))
          (λ (m : Memᴰ y xs). later.1 (m, k.1)) (mathlib.Core.List.Memᴰ.cases_cons k.0),
    ))
    (λ e. (
      λ k.
          ⊎_elim (λ (q : y ≡ x). (mathlib.Core.List.Memᴰ.head q, λ f. eqb-false _ _ e (ap (λ (u : Range). u.id) (sym q) ∙ f))) more
          (mathlib.Core.List.Memᴰ.cases_cons k),
      λ k.
          ⊎_elim (λ (q : y ≡ x). mathlib.Core.List.Memᴰ.head q) (λ (m : Memᴰ y xs). mathlib.Core.List.Memᴰ.tail (later.1 (m, k.1)))
          (mathlib.Core.List.Memᴰ.cases_cons k.0),
    ))

all_without : (P : Range → Type 0) (id : ℕ) (xs : List Range) → All P xs → All P (without id xs)
all_without P id [] h = tt
all_without P id (x ∷ xs) h =
    let k = all_without P id xs h.1 in
    cond_cases (All P) (eqb x.id id) (λ e. k) (λ e. (h.0, k))

-- What holds of every two holds of every two that remain.
pub pairs_without : (R : Range → Range → Type 0) (id : ℕ) (xs : List Range) → Pairwise R xs → Pairwise R (without id xs)
pairs_without R id [] h = tt
pairs_without R id (x ∷ xs) h =
    let k = pairs_without R id xs h.1 in
    cond_cases (Pairwise R) (eqb x.id id) (λ e. k) (λ e. (all_without (R x) id xs h.0, k))
