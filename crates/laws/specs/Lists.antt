-- Every element, every pair and every two neighbours of a list. Assumes nothing.
use mathlib.Core.List.Memᴰ
use mathlib.Core.List.{List, [], ◌∷◌, Memᴰ}
use Rattle.std.specs.Prelude.{◌⊎◌, ◌≡◌, refl}
use Rattle.std.proofs.Common.{inl, inr, sym, ◌∙◌}

-- P holds of every element
abbrev pub All : {A : Type 0} → (A → Type 0) → List A → Type 0
All P [] = Unit {0}
All P (x ∷ xs) = P x × All P xs

-- R holds of every two elements, the earlier one first
abbrev pub Pairwise : {A : Type 0} → (A → A → Type 0) → List A → Type 0
Pairwise R [] = Unit {0}
Pairwise R (x ∷ xs) = All (R x) xs × Pairwise R xs

-- P holds of the first element, if there is one
abbrev pub Head : {A : Type 0} → (A → Type 0) → List A → Type 0
Head P [] = Unit {0}
Head P (x ∷ xs) = P x

-- R holds of every two neighbours
abbrev pub Linked : {A : Type 0} → (A → A → Type 0) → List A → Type 0
Linked R [] = Unit {0}
Linked R (x ∷ xs) = Head (R x) xs × Linked R xs

-- What follows from P holds of every element where P does.
pub all_map : {A : Type 0} {P Q : A → Type 0} (f : (x : A) → P x → Q x) (xs : List A) → All P xs → All Q xs
all_map f [] h = tt
all_map f (x ∷ xs) h = (f x h.0, all_map f xs h.1)

-- And what follows from two such facts.
pub all_zip : {A : Type 0} {P Q S : A → Type 0} (f : (x : A) → P x → Q x → S x) (xs : List A)
    → All P xs → All Q xs → All S xs
all_zip f [] h k = tt
all_zip f (x ∷ xs) h k = (f x h.0 k.0, all_zip f xs h.1 k.1)

-- What holds of every element holds of each member.
pub all_at : {A : Type 0} (P : A → Type 0) (xs : List A) → All P xs → (y : A) → Memᴰ y xs → P y
all_at P [] h y m = absurd (Memᴰ.not-nil m)
all_at P (x ∷ xs) h y (Memᴰ.head e) = rw e h.0
all_at P (x ∷ xs) h y (Memᴰ.tail m) = all_at P xs h.1 y m

-- And the other way round.
pub all_of : {A : Type 0} (P : A → Type 0) (xs : List A) → ((y : A) → Memᴰ y xs → P y) → All P xs
all_of P [] f = tt
all_of P (x ∷ xs) f = (f x (Memᴰ.head refl), all_of P xs (λ y m. f y (Memᴰ.tail m)))

-- The same of the first element.
pub head_map : {A : Type 0} {P Q : A → Type 0} (f : (x : A) → P x → Q x) (xs : List A) → Head P xs → Head Q xs
head_map f [] h = tt
head_map f (x ∷ xs) h = f x h

-- What holds of all holds of the first.
pub head_of : {A : Type 0} {P : A → Type 0} (f : (x : A) → P x) (xs : List A) → Head P xs
head_of f [] = tt
head_of f (x ∷ xs) = f x

-- Two members of a list whose pairs are related are one, or are related one way or the other.
pub pair_at : {A : Type 0} (R : A → A → Type 0) (xs : List A) → Pairwise R xs
    → (y z : A) → Memᴰ y xs → Memᴰ z xs → (y ≡ z) ⊎ (R y z ⊎ R z y)
pair_at R [] h y z m k = absurd (Memᴰ.not-nil m)
pair_at R (x ∷ xs) h y z (Memᴰ.head e) (Memᴰ.head f) = inl (e ∙ sym f)
pair_at R (x ∷ xs) h y z (Memᴰ.head e) (Memᴰ.tail k) = inr (inl (rw e (all_at (R x) xs h.0 z k)))
pair_at R (x ∷ xs) h y z (Memᴰ.tail m) (Memᴰ.head f) = inr (inr (rw f (all_at (R x) xs h.0 y m)))
pair_at R (x ∷ xs) h y z (Memᴰ.tail m) (Memᴰ.tail k) = pair_at R xs h.1 y z m k
