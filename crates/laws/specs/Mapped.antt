-- What holds of every element, every pair and every two neighbours of a mapped list. Assumes nothing.
use Rattle.std.specs.Prelude.{List, [], ◌∷◌, map, ◌↔◌}
use Rattle.laws.specs.Lists.{All, Pairwise, Head, Linked}

module _ {A B : Type 0} (f : A → B) where
  -- Every element of a mapped list is that of one that was mapped.
  pub all-mapped : (P : B → Type 0) (l : List A) → All P (map f l) ↔ All (λ x. P (f x)) l
  all-mapped P [] = (λ h. h, λ h. h)
  all-mapped P (x ∷ l) = (λ h. (h.0, (all-mapped P l).0 h.1), λ h. (h.0, (all-mapped P l).1 h.1))

  -- So is every pair.
  pub pairs-mapped : (R : B → B → Type 0) (l : List A) → Pairwise R (map f l) ↔ Pairwise (λ x y. R (f x) (f y)) l
  pairs-mapped R [] = (λ h. h, λ h. h)
  pairs-mapped R (x ∷ l) = (
    λ h. ((all-mapped (R (f x)) l).0 h.0, (pairs-mapped R l).0 h.1),
    λ h. ((all-mapped (R (f x)) l).1 h.0, (pairs-mapped R l).1 h.1),
  )

  head-mapped : (P : B → Type 0) (l : List A) → Head (λ x. P (f x)) l → Head P (map f l)
  head-mapped P [] h = h
  head-mapped P (x ∷ l) h = h

  -- And two neighbours.
  pub linked-mapped : (R : B → B → Type 0) (l : List A) → Linked (λ x y. R (f x) (f y)) l → Linked R (map f l)
  linked-mapped R [] h = h
  linked-mapped R (x ∷ l) h = (head-mapped (R (f x)) l h.0, linked-mapped R l h.1)
