-- The chunk that is chosen: every chunk with its neighbours, and which of them `best` and `find` take. Theorems. Assumes nothing.
use Rattle.std.specs.Prelude.{◌≤◌, Bool, true, false, ◌↔◌, ◌≡◌, refl, ltb}
use Rattle.std.proofs.Common.{le_refl, arith, sym, ap, ◌∙◌, ltb-true, ltb-false}
use Rattle.std.proofs.lemmas.Bool.{false≢true}
use mathlib.Core.List.Memᴰ
use mathlib.Core.List.{List, [], ◌∷◌, reverse_aux, Memᴰ}
use Rattle.std.proofs.Math.Option.{Option, none, some}
use Rattle.laws.specs.Lists.{All}
use Rattle.laws.specs.Tests.{cond_cases}
use Rattle.model.specs.Block.{Chunk, Spot, total, first, spots}
use Rattle.model.specs.GivingBack.{find}
use Rattle.model.specs.Placing.{smaller, best}
use Rattle.model.specs.Choose.{Cut, Chosen, Best, Found}

-- what holds of the first element and of all the others holds of each
mem_cases : {A : Type 0} {x : A} {xs : List A} (P : A → Type 0) → P x → ((y : A) → Memᴰ y xs → P y)
    → (y : A) → Memᴰ y (x ∷ xs) → P y
mem_cases P p f y (Memᴰ.head e) = rw e p
mem_cases P p f y (Memᴰ.tail m) = f y m

spots-cut : (left cs : List Chunk) (y : Spot) → Memᴰ y (spots left cs) → Cut (reverse_aux left cs) y
spots-cut left [] y m = absurd (Memᴰ.not-nil m)
spots-cut left (c ∷ cs) y m = mem_cases (Cut (reverse_aux left (c ∷ cs))) refl (spots-cut (c ∷ left) cs) y m

spots-all : (left cs : List Chunk) (y : Spot) → Memᴰ y (spots left cs)
    → Memᴰ y (spots [] (reverse_aux left cs))
spots-all [] cs y m = m
spots-all (c ∷ left) cs y m = spots-all left (c ∷ cs) y (Memᴰ.tail m)

-- The spots of a list are the ways to cut it at a chunk.
pub cut-of_spot : (cs : List Chunk) (z : Spot) → Memᴰ z (spots [] cs) → Cut cs z
cut-of_spot cs z m = spots-cut [] cs z m

pub spot-of_cut : (cs : List Chunk) (z : Spot) → Cut cs z → Memᴰ z (spots [] cs)
spot-of_cut cs z e = rw e at (spots-all z.left (z.chunk ∷ z.right) z (Memᴰ.head refl))

-- What holds of the chunk of every spot holds of every chunk, and the other way round.
pub all_spots : (P : Chunk → Type 0) (left cs : List Chunk)
    → ((z : Spot) → Memᴰ z (spots left cs) → P z.chunk) ↔ All P cs
all_spots P left [] = (λ f. tt, λ h z m. absurd (Memᴰ.not-nil m))
all_spots P left (c ∷ cs) =
    let k = all_spots P (c ∷ left) cs in (
      λ f. (f _ (Memᴰ.head refl), k.0 (λ z m. f z (Memᴰ.tail m))),
      λ h. mem_cases (λ z. P z.chunk) h.0 (k.1 h.1),
    )

spots-above : (left cs : List Chunk) (y : Spot) → Memᴰ y (spots left cs) → total left ≤ first y
spots-above left [] y m = absurd (Memᴰ.not-nil m)
spots-above left (c ∷ cs) y m =
    mem_cases (λ x. total left ≤ first x) (le_refl _) (λ x k. omega (arith, spots-above (c ∷ left) cs x k)) y m

spots-same : (left cs : List Chunk) → All (λ c. 1 ≤ c.size) cs → (y z : Spot)
    → Memᴰ y (spots left cs) → Memᴰ z (spots left cs) → first y ≡ first z → y ≡ z
spots-same left [] h y z m k e = absurd (Memᴰ.not-nil m)
spots-same left (c ∷ cs) h y z (Memᴰ.head p) (Memᴰ.head q) e = p ∙ sym q
spots-same left (c ∷ cs) h y z (Memᴰ.head p) (Memᴰ.tail k) e =
    absurd (omega (arith, ap first p, spots-above (c ∷ left) cs z k))
spots-same left (c ∷ cs) h y z (Memᴰ.tail m) (Memᴰ.head q) e =
    absurd (omega (arith, ap first q, spots-above (c ∷ left) cs y m))
spots-same left (c ∷ cs) h y z (Memᴰ.tail m) (Memᴰ.tail k) e = spots-same (c ∷ left) cs h.1 y z m k e

-- Where every chunk has a byte, the address tells the chunk.
pub same_spot : (cs : List Chunk) → All (λ c. 1 ≤ c.size) cs → (y z : Spot) → Cut cs y → Cut cs z
    → first y ≡ first z → y ≡ z
same_spot cs h y z p q = spots-same [] cs h y z (spot-of_cut cs y p) (spot-of_cut cs z q)

-- ---- the choice

-- by rising address
abbrev Rising : List Spot → Type 0
Rising [] = Unit {0}
Rising (z ∷ zs) = ((y : Spot) → Memᴰ y zs → first z ≤ first y) × Rising zs

spots-rise : (left cs : List Chunk) → Rising (spots left cs)
spots-rise left [] = tt
spots-rise left (c ∷ cs) = (λ y m. omega (arith, spots-above (c ∷ left) cs y m), spots-rise (c ∷ left) cs)

module _ (passes : Spot → Bool) (z : Spot) (zs : List Spot) where
  -- what is the best of the others, and no worse than z, is the best of all
  extend : (x : Spot) → Memᴰ x (z ∷ zs) → passes x ≡ true
      → (passes z ≡ true → x.chunk.size ≤ z.chunk.size)
      → (passes z ≡ true → x.chunk.size ≡ z.chunk.size → first x ≤ first z)
      → ((y : Spot) → Memᴰ y zs → passes y ≡ true → x.chunk.size ≤ y.chunk.size)
      → ((y : Spot) → Memᴰ y zs → passes y ≡ true → x.chunk.size ≡ y.chunk.size → first x ≤ first y)
      → Chosen passes (z ∷ zs) x
  extend x m p s f ss fs = record {
    member = m;
    passed = p;
    smallest = mem_cases (λ y. passes y ≡ true → x.chunk.size ≤ y.chunk.size) s ss;
    earliest = mem_cases (λ y. passes y ≡ true → x.chunk.size ≡ y.chunk.size → first x ≤ first y) f fs;
  }

  skip : passes z ≡ false → (o : Option Spot) → Best passes zs o → Best passes (z ∷ zs) o
  skip e none h = mem_cases (λ y. passes y ≡ true → ⊥) (λ t. false≢true (sym e ∙ t)) h
  skip e (some x) h =
      extend x (Memᴰ.tail h.member) h.passed
      (λ t. absurd (false≢true (sym e ∙ t))) (λ t. absurd (false≢true (sym e ∙ t))) h.smallest h.earliest

  module _ (e : passes z ≡ true) (low : (y : Spot) → Memᴰ y zs → first z ≤ first y) where
    take : ((y : Spot) → Memᴰ y zs → passes y ≡ true → z.chunk.size ≤ y.chunk.size) → Chosen passes (z ∷ zs) z
    take s = extend z (Memᴰ.head refl) e (λ t. le_refl _) (λ t q. le_refl _) s (λ y m t q. low y m)

    choose : (o : Option Spot) → Best passes zs o → Best passes (z ∷ zs) (smaller z o)
    choose none h = take (λ y m t. absurd (h y m t))
    choose (some x) h =
        cond_cases (Best passes (z ∷ zs)) (ltb x.chunk.size z.chunk.size)
        (λ l.
        extend x (Memᴰ.tail h.member) h.passed (λ t. omega (arith, ltb-true)) (λ t q. omega (arith, ltb-true))
        h.smallest h.earliest)
        (λ l. take (λ y m t. omega (arith, h.smallest y m t, ltb-false)))

best_of : (passes : Spot → Bool) (zs : List Spot) → Rising zs → Best passes zs (best passes zs)
best_of passes [] o = λ y m t. Memᴰ.not-nil m
best_of passes (z ∷ zs) o =
    cond_cases (Best passes (z ∷ zs)) (passes z)
    (λ e. choose passes z zs e o.0 (best passes zs) (best_of passes zs o.1))
    (λ e. skip passes z zs e (best passes zs) (best_of passes zs o.1))

-- `best` takes the smallest spot that passes, of equals the one with the lowest address; or none passes.
pub best-spot : (passes : Spot → Bool) (cs : List Chunk) → Best passes (spots [] cs) (best passes (spots [] cs))
best-spot passes cs = best_of passes (spots [] cs) (spots-rise [] cs)

-- `find` takes a spot that passes; or none passes.
pub found : (passes : Spot → Bool) (zs : List Spot) → Found passes zs (find passes zs)
found passes [] = λ y m t. Memᴰ.not-nil m
found passes (z ∷ zs) =
    cond_cases (Found passes (z ∷ zs)) (passes z) (λ e. (Memᴰ.head refl, e))
    (λ e. on e (find passes zs) (found passes zs))
  where
    on : passes z ≡ false → (o : Option Spot) → Found passes zs o → Found passes (z ∷ zs) o
    on e none h = mem_cases (λ y. passes y ≡ true → ⊥) (λ t. false≢true (sym e ∙ t)) h
    on e (some x) h = (Memᴰ.tail h.0, h.1)
