-- A list that is cut in two: `reverse_aux l r` is the list l, the nearest first, and then r. Assumes nothing.
use mathlib.Core.List.Memᴰ
use mathlib.Core.List.{List, [], ◌∷◌, reverse_aux, Memᴰ}
use Rattle.std.specs.Prelude.{◌↔◌, ◌⊎◌}
use Rattle.std.proofs.Common.{inl, inr}
use Rattle.laws.specs.Lists.{All, Pairwise, Head, Linked, all_map, all_zip}

-- a relation read from right to left, as the nearest first stand
abbrev pub Converse : {A : Type 0} → (A → A → Type 0) → A → A → Type 0
Converse R x y = R y x

-- Every element of the whole is every element of both parts.
pub cut_all : {A : Type 0} (P : A → Type 0) (l r : List A) → All P (reverse_aux l r) ↔ (All P l × All P r)
cut_all P [] r = (λ h. (tt, h), λ h. h.1)
cut_all P (x ∷ l) r =
    let k = cut_all P l (x ∷ r) in
    (λ h. let m = k.0 h in ((m.1.0, m.0), m.1.1), λ h. k.1 (h.0.1, (h.0.0, h.1)))

-- The pairs of the whole are those of either part, and those across the cut.
pub cut-pairs : {A : Type 0} (R : A → A → Type 0) (l r : List A)
    → Pairwise R (reverse_aux l r) ↔ (Pairwise (Converse R) l × Pairwise R r × All (λ x. All (R x) r) l)
cut-pairs R [] r = (λ h. (tt, h, tt), λ h. h.1)
cut-pairs R (x ∷ l) r =
    let k = cut-pairs R l (x ∷ r) in (
      λ h.
          let m = k.0 h in
          ((all_map (λ y p. p.0) l m.2, m.0), m.1.1, (m.1.0, all_map (λ y p. p.1) l m.2)),
      λ h. k.1 (h.0.1, (h.2.0, h.1), all_zip (λ y p q. (p, q)) l h.0.0 h.2.1),
    )

-- The neighbours of the whole are those in either part, and the two at the cut.
pub cut-links : {A : Type 0} (R : A → A → Type 0) (l r : List A)
    → Linked R (reverse_aux l r) ↔ (Linked (Converse R) l × Linked R r × Head (λ x. Head (R x) r) l)
cut-links R [] r = (λ h. (tt, h, tt), λ h. h.1)
cut-links R (x ∷ l) r =
    let k = cut-links R l (x ∷ r) in
    (λ h. let m = k.0 h in ((m.2, m.0), m.1.1, m.1.0), λ h. k.1 (h.0.1, (h.2, h.1), h.0.0))

-- A member of the whole is one of either part.
pub in_part : {A : Type 0} (l r : List A) (y : A) → Memᴰ y (reverse_aux l r) → Memᴰ y l ⊎ Memᴰ y r
in_part [] r y m = inr m
in_part (x ∷ l) r y m = go (in_part l (x ∷ r) y m)
  where
    go : Memᴰ y l ⊎ Memᴰ y (x ∷ r) → Memᴰ y (x ∷ l) ⊎ Memᴰ y r
    go (inl k) = inl (Memᴰ.tail k)
    go (inr (Memᴰ.head e)) = inl (Memᴰ.head e)
    go (inr (Memᴰ.tail k)) = inr k

-- And a member of either part, the second or the first, is one of the whole.
pub from-right : {A : Type 0} (l r : List A) (y : A) → Memᴰ y r → Memᴰ y (reverse_aux l r)
from-right [] r y m = m
from-right (x ∷ l) r y m = from-right l (x ∷ r) y (Memᴰ.tail m)

pub from-left : {A : Type 0} (l r : List A) (y : A) → Memᴰ y l → Memᴰ y (reverse_aux l r)
from-left [] r y m = absurd (Memᴰ.not-nil m)
from-left (x ∷ l) r y (Memᴰ.head e) = from-right l (x ∷ r) y (Memᴰ.head e)
from-left (x ∷ l) r y (Memᴰ.tail m) = from-left l (x ∷ r) y m

-- ---- what stays of every element, and of every pair, where an element is put in, is taken out, or gives way to another

module _ {A : Type 0} (P : A → Type 0) (l : List A) (x : A) where
  -- x is put in before r
  pub put_all : (r : List A) → P x → All P (reverse_aux l r) → All P (reverse_aux l (x ∷ r))
  put_all r p h = let k = (cut_all P l r).0 h in (cut_all P l (x ∷ r)).1 (k.0, (p, k.1))

  -- y, which stands after x, is taken out
  pub drop_all : (y : A) (r : List A) → All P (reverse_aux l (x ∷ y ∷ r)) → All P (reverse_aux l (x ∷ r))
  drop_all y r h = let k = (cut_all P l (x ∷ y ∷ r)).0 h in (cut_all P l (x ∷ r)).1 (k.0, (k.1.0, k.1.1.1))

  -- x gives way to y
  pub swap-all : (y : A) (r : List A) → (P x → P y) → All P (reverse_aux l (x ∷ r)) → All P (reverse_aux l (y ∷ r))
  swap-all y r f h = let k = (cut_all P l (x ∷ r)).0 h in (cut_all P l (y ∷ r)).1 (k.0, (f k.1.0, k.1.1))

module _ {A : Type 0} (R : A → A → Type 0) (l : List A) (x : A) where
  -- x is put in before r
  pub put-pairs : (r : List A) → All (λ y. R y x × R x y) (reverse_aux l r)
      → Pairwise R (reverse_aux l r) → Pairwise R (reverse_aux l (x ∷ r))
  put-pairs r p h =
      let k = (cut-pairs R l r).0 h in
      let q = (cut_all (λ y. R y x × R x y) l r).0 p in
      (cut-pairs R l (x ∷ r)).1 (k.0, (all_map (λ y w. w.1) r q.1, k.1), all_zip (λ y w v. (w.0, v)) l q.0 k.2)

  -- y, which stands after x, is taken out
  pub drop-pairs : (y : A) (r : List A) → Pairwise R (reverse_aux l (x ∷ y ∷ r)) → Pairwise R (reverse_aux l (x ∷ r))
  drop-pairs y r h =
      let k = (cut-pairs R l (x ∷ y ∷ r)).0 h in
      (cut-pairs R l (x ∷ r)).1 (k.0, (k.1.0.1, k.1.1.1), all_map (λ z w. (w.0, w.1.1)) l k.2)

  -- x gives way to y
  pub swap-pairs : (y : A) (r : List A) → ((z : A) → R z x → R z y) → ((z : A) → R x z → R y z)
      → Pairwise R (reverse_aux l (x ∷ r)) → Pairwise R (reverse_aux l (y ∷ r))
  swap-pairs y r f g h =
      let k = (cut-pairs R l (x ∷ r)).0 h in
      (cut-pairs R l (y ∷ r)).1 (k.0, (all_map g r k.1.0, k.1.1), all_map (λ z w. (f z w.0, w.1)) l k.2)
