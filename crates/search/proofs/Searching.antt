-- The search for the best chunk as a loop: what was chosen so far, and the best of what is ahead, come to the choice.
-- Assumes nothing.
use Rattle.std.proofs.Common.{◌≡◌, ℕ, ◌+◌, ◌-◌, ◌^◌, ◌<◌, ◌≤◌, Bool, true, false, cond, ltb, leb, ◌≢◌, List, [], ◌∷◌, sym, refl, ap, ◌∙◌, ⊎_elim, arith, ltb-false, ltb-true, le-ltb, lt-ltb, eq-eqb, eqb-true, le-leb, leb-true}
use mathlib.Core.Option.{Option, none, some}
use Rattle.std.specs.Prelude as Opt
use Rattle.std.specs.Prelude.{Some, None}
use Rattle.laws.specs.Every.{pass, more, two, cases, clash}
use Rattle.laws.specs.Tests.{both, both_pass, either}
use Rattle.pages.specs.Vulkan.{Resource}
use Rattle.model.specs.Block.{Chunk, Spot, first, is_free, spots, largest_block}
use Rattle.model.specs.Placing.{Request, taken_at, fits_at, holds, smaller, best as bestOf, chosen, chunk_before, chunk_after}
use Rattle.table.specs.Layout.{first_slot, size_at, first_byte_at, kind_at, next_at}
use Rattle.words.specs.Words.{block_of, sound}
use Rattle.words.specs.Spots.{InSlot}
use Rattle.words.proofs.Spots.{in_words}
use Rattle.search.specs.Along.{Along, along-first, along-here, along-next, along-held, along-end}
use Rattle.search.specs.Best.{best_slot, better_at}
use Rattle.search.specs.Fit.{before_at, after_at, before-chunk, after-chunk}
use Rattle.search.specs.Found.{slot_of_spot}
use Rattle.search.specs.Held.{HeldIn, in_bytes}
use Rattle.search.specs.Slots.{some_slot, slot_some}

-- ---- from left to right

-- the better of what was chosen so far and what is chosen of the chunks ahead
abbrev keep_best : Option Spot → Option Spot → Option Spot
keep_best none y = y
keep_best (some x) y = smaller x y

keep_none : (a : Option Spot) → keep_best a none ≡ a
keep_none none = refl
keep_none (some x) = refl

module _ (x y z : Spot) where
  abbrev size-x : ℕ
  size-x = x.chunk.size

  abbrev size-y : ℕ
  size-y = y.chunk.size

  abbrev size-z : ℕ
  size-z = z.chunk.size

  -- the best of three does not depend on which two are compared first
  three : (t u : Bool) → ltb size-z size-y ≡ t → ltb size-y size-x ≡ u
      → smaller x (smaller y (some z)) ≡ keep_best (smaller x (some y)) (some z)
  three true true e f =
      let g : ltb size-z size-x ≡ true = lt-ltb size-z size-x (omega (arith, ltb-true)) in
      rw (f, e, g)
  three true false e f = rw (f, e)
  three false true e f = rw (f, e, f)
  three false false e f =
      let g : ltb size-z size-x ≡ false = le-ltb size-z size-x (omega (arith, ltb-false)) in
      rw (f, e, f, g)

keep_later : (a : Option Spot) (z : Spot) (o : Option Spot) → keep_best a (smaller z o) ≡ keep_best (keep_best a (some z)) o
keep_later none z o = refl
keep_later (some x) z none = sym (keep_none (smaller x (some z)))
keep_later (some x) z (some y) = three x z y _ _ refl refl

-- one chunk is taken from those ahead
keep_step : (passes : Spot → Bool) (a : Option Spot) (z : Spot) (zs : List Spot)
    → keep_best a (bestOf passes (z ∷ zs)) ≡ keep_best (cond (passes z) (keep_best a (some z)) a) (bestOf passes zs)
keep_step passes a z zs = go (passes z)
  where
    go : (t : Bool) → keep_best a (cond t (smaller z (bestOf passes zs)) (bestOf passes zs))
        ≡ keep_best (cond t (keep_best a (some z)) a) (bestOf passes zs)
    go true = keep_later a z (bestOf passes zs)
    go false = refl

-- ---- one chunk, by the words of its slot

fit_size : (r : Request) (begin size : ℕ) (before after : Resource) → fits_at r begin size before after ≡ true → r.size ≤ size
unfolding fits_at taken_at
fit_size r begin size before after e =
    omega (arith, leb-true (taken_at r begin before) size (both (leb (taken_at r begin before) size) _ e).0)

module _ (ws : List ℕ) (k : ℕ) (z : Spot) (h : InSlot ws k z) (r : Request) where
  abbrev fit : Bool
  fit = fits_at r (first z) z.chunk.size (chunk_before z) (chunk_after z)

  same-fit : fits_at r (first_byte_at ws k) (size_at ws k) (before_at ws k) (after_at ws k) ≡ fit
  same-fit =
      let w = in_words h in
      λ i. fits_at r (w.begins i) (w.size i) (before-chunk ws k z h i) (after-chunk ws k z h i)

  -- a better chunk passes
  better : (least : ℕ) → better_at ws k least r ≡ true → (holds r z ≡ true) × (z.chunk.size < least)
  unfolding better_at
  better least e =
      let w = in_words h in
      let kind : kind_at ws k ≡ 0 = eqb-true _ _ (pass _ 2 e) in
      let size : size_at ws k < least = ltb-true _ _ (pass _ 1 e) in
      (both_pass (eq-eqb _ _ (sym w.kind ∙ kind)) (sym same-fit ∙ pass _ 3 e), omega (arith, w.size))

  -- a chunk that passes and is not better has no fewer bytes
  worse : (least : ℕ) → better_at ws k least r ≡ false → holds r z ≡ true → least ≤ z.chunk.size
  unfolding better_at
  worse least e t =
      let w = in_words h in
      let p = both (is_free z.chunk) fit t in
      let size : r.size ≤ z.chunk.size = fit_size r (first z) z.chunk.size (chunk_before z) (chunk_after z) p.1 in
      either _ z.chunk.size least
      (λ l.
      absurd (clash
      (more _ _ (le-leb r.size (size_at ws k) (omega (arith, w.size)))
      (more _ _ (lt-ltb (size_at ws k) least (omega (arith, w.size)))
      (two _ _ (eq-eqb _ _ (w.kind ∙ eqb-true _ _ p.0)) (same-fit ∙ p.1))))
      e))
      (λ l. l)

-- ---- the loop

-- best and least are the slot and the size of the best so far
abbrev Noted : Option Spot → Opt.Option ℕ → ℕ → Type 0
Noted none best least = (best ≡ None) × (largest_block < least)
Noted (some z) best least = (best ≡ some_slot z.chunk.slot) × (least ≡ z.chunk.size)

-- The search is about to look at slot k: those on the left were looked at, and the best has so many bytes to spare.
pub record Searching (ws : List ℕ) (r : Request) (k : ℕ) (best : Opt.Option ℕ) (spare : ℕ) : Type 0 where
  left : List Chunk
  right : List Chunk
  so_far : Option Spot
  along : Along ws k left right
  choice : keep_best so_far (bestOf (holds r) (spots left right)) ≡ chosen r (block_of ws)
  noted : Noted so_far best (spare + r.size)
  pub word : spare + r.size < 2 ^ 64

-- It begins with the first chunk, and with none chosen.
pub begin : (ws : List ℕ) (r : Request) (k spare : ℕ) → sound ws ≡ true → k ≡ first_slot ws → largest_block < spare + r.size
    → spare + r.size < 2 ^ 64 → Searching ws r k None spare
begin ws r k spare s e l m = record {
  left = [];
  right = (block_of ws).chunks;
  so_far = none;
  along = along-first ws s k e;
  choice = refl;
  noted = (refl, l);
  word = m;
}

module _ (ws : List ℕ) (s : sound ws ≡ true) (r : Request) (k : ℕ) (best : Opt.Option ℕ) (spare : ℕ) where
  abbrev least : ℕ
  least = spare + r.size

  -- A slot other than 0 holds a chunk.
  pub held : Searching ws r k best spare → k ≢ 0 → HeldIn ws k
  held h n = along-held ws s k h.left h.right h.along n

  -- At slot 0 all were looked at.
  pub done : Searching ws r k best spare → k ≡ 0 → best ≡ some_slot (best_slot ws r)
  unfolding best_slot
  done h z =
      let e = along-end ws s k h.left h.right h.along z in
      noted-slot h.so_far h.noted
      ∙ ap (λ (o : Option Spot). some_slot (slot_of_spot o))
      (sym (keep_none h.so_far)
      ∙ ap (λ (cs : List Chunk). keep_best h.so_far (bestOf (holds r) (spots h.left cs))) (sym e)
      ∙ h.choice)
    where
      noted-slot : (o : Option Spot) → Noted o best least → best ≡ some_slot (slot_of_spot o)
      noted-slot none q = q.0
      noted-slot (some x) q = q.0

  -- the search goes on at the next slot
  on : (left cs : List Chunk) (c : Chunk) → Along ws k left (c ∷ cs)
      → (o : Option Spot) (b : Opt.Option ℕ) (l : ℕ) → Noted o b (l + r.size) → l + r.size < 2 ^ 64
      → keep_best o (bestOf (holds r) (spots (c ∷ left) cs)) ≡ chosen r (block_of ws)
      → Searching ws r (next_at ws k) b l
  on left cs c a o b l q m x = record {
    left = c ∷ left;
    right = cs;
    so_far = o;
    along = along-next ws s k left c cs a;
    choice = x;
    noted = q;
    word = m;
  }

  -- A better chunk is no smaller than the request,
  pub better-size : better_at ws k least r ≡ true → r.size ≤ size_at ws k
  unfolding better_at
  better-size t = leb-true _ _ (pass _ 0 t)

  -- and is noted: it has its size, less that of the request, to spare.
  pub go-better : Searching ws r k best spare → k ≢ 0 → better_at ws k least r ≡ true → (size : ℕ) → size ≡ size_at ws k
      → Searching ws r (next_at ws k) (Some k) (size - r.size)
  go-better h n t size d = go h.right h.along h.choice
    where
      replaced : (o : Option Spot) (z : Spot) → Noted o best least → z.chunk.size < least → keep_best o (some z) ≡ some z
      replaced none z q l = refl
      replaced (some x) z q l = rw (lt-ltb z.chunk.size x.chunk.size (omega (arith, q.1)))

      go : (right : List Chunk) → Along ws k h.left right
          → keep_best h.so_far (bestOf (holds r) (spots h.left right)) ≡ chosen r (block_of ws)
          → Searching ws r (next_at ws k) (Some k) (size - r.size)
      go [] a q = absurd (n a.slot)
      go (c ∷ cs) a q =
          let z : Spot = record { left = h.left; chunk = c; right = cs } in
          let i = along-here ws s k h.left c cs a in
          let b = better ws k z i r least t in
          let x : cond (holds r z) (keep_best h.so_far (some z)) h.so_far ≡ some z =
          rw b.0 (replaced h.so_far z h.noted b.1) in
          let f : size - r.size + r.size ≡ size_at ws k = omega (arith, better-size t) in
          let m = in_bytes ws k z i s in
          on h.left cs c a (some z) (Some k) (size - r.size) (slot_some k n ∙ ap some_slot a.slot, f ∙ (in_words i).size) (omega arith)
          (ap (λ (o : Option Spot). keep_best o (bestOf (holds r) (spots (c ∷ h.left) cs))) (sym x)
          ∙ sym (keep_step (holds r) h.so_far z (spots (c ∷ h.left) cs)) ∙ q)

  -- Any other is passed over.
  pub go-worse : Searching ws r k best spare → k ≢ 0 → better_at ws k least r ≡ false
      → Searching ws r (next_at ws k) best spare
  go-worse h n t = go h.right h.along h.choice
    where
      kept : (o : Option Spot) (z : Spot) → Noted o best least → z.chunk.size ≤ largest_block → least ≤ z.chunk.size
          → keep_best o (some z) ≡ o
      kept none z q m l = absurd (omega (arith, q.1))
      kept (some x) z q m l = rw (le-ltb z.chunk.size x.chunk.size (omega (arith, q.1)))

      go : (right : List Chunk) → Along ws k h.left right
          → keep_best h.so_far (bestOf (holds r) (spots h.left right)) ≡ chosen r (block_of ws)
          → Searching ws r (next_at ws k) best spare
      go [] a q = absurd (n a.slot)
      go (c ∷ cs) a q =
          let z : Spot = record { left = h.left; chunk = c; right = cs } in
          let i = along-here ws s k h.left c cs a in
          let m = in_bytes ws k z i s in
          let x : cond (holds r z) (keep_best h.so_far (some z)) h.so_far ≡ h.so_far =
          ⊎_elim
          (λ p. rw p (kept h.so_far z h.noted (omega (arith, (in_words i).size)) (worse ws k z i r least t p)))
          (λ p. rw p)
          (cases (holds r z)) in
          on h.left cs c a h.so_far best spare h.noted h.word
          (ap (λ (o : Option Spot). keep_best o (bestOf (holds r) (spots (c ∷ h.left) cs))) (sym x)
          ∙ sym (keep_step (holds r) h.so_far z (spots (c ∷ h.left) cs)) ∙ q)
