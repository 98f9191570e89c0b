-- Giving back joins a chunk with the free neighbours on both sides of it. Theorems. Assumes nothing.
use Rattle.std.specs.Prelude.{ℕ, ◌+◌, ◌≤◌, ◌≡◌, refl}
use Rattle.std.proofs.Common.{le_refl, le_trans, add-zero, arith, ◌∙◌, eqb-true, ne_eqb}
use mathlib.Core.List.{List, [], ◌∷◌, reverse_aux}
use Rattle.laws.specs.Reply.{accepted}
use Rattle.laws.specs.Tests.{cond_cases}
use Rattle.model.specs.Block.{Chunk, Block, Spot, is_free, total}
use Rattle.model.specs.Effects.{replaced}
use Rattle.model.proofs.Effects.{released}
use Rattle.model.specs.GivingBack.{grown, merge_left, merge_right, freed, release}
use Rattle.model.specs.Merging.{NearestLive, free_as, FreeOver, Frees, TakesIn}

left_live : (left : List Chunk) (c : Chunk) (right : List Chunk) → NearestLive left
    → merge_left left c right ≡ reverse_aux left (c ∷ right)
left_live [] c right h = refl
left_live (p ∷ left) c right h = rw (ne_eqb p.kind 0 h)

right_live : (left : List Chunk) (c : Chunk) (right : List Chunk) → NearestLive right
    → merge_right left c right ≡ merge_left left c right
right_live left c [] h = refl
right_live left c (n ∷ right) h = rw (ne_eqb n.kind 0 h)

module _ (left : List Chunk) (c : Chunk) (right : List Chunk) where
  -- No neighbour is free: the chunk alone is.
  pub freed-alone : NearestLive left → NearestLive right
      → freed record { left = left; chunk = c; right = right } ≡ reverse_aux left (free_as c c.size ∷ right)
  freed-alone hl hr = right_live left (grown c 0) right hr ∙ left_live left (grown c 0) right hl ∙ rw add-zero

  -- Only the chunk after it is free: it goes into the one given back.
  pub freed-next : (n : Chunk) → NearestLive left → n.kind ≡ 0
      → freed record { left = left; chunk = c; right = n ∷ right }
      ≡ reverse_aux left (free_as c (c.size + n.size) ∷ right)
  freed-next n hl hn = rw (hn, add-zero) (left_live left (free_as c (c.size + n.size)) right hl)

  -- Only the chunk before it is free: the one given back goes into that, whose id and slot survive.
  pub freed-previous : (p : Chunk) → p.kind ≡ 0 → NearestLive right
      → freed record { left = p ∷ left; chunk = c; right = right }
      ≡ reverse_aux left (free_as p (p.size + c.size) ∷ right)
  freed-previous p hp hr = right_live (p ∷ left) (grown c 0) right hr ∙ rw (hp, add-zero)

  -- Both are free: all three become one, under the id and in the slot of the leftmost.
  pub freed-both : (p n : Chunk) → p.kind ≡ 0 → n.kind ≡ 0
      → freed record { left = p ∷ left; chunk = c; right = n ∷ right }
      ≡ reverse_aux left (free_as p (p.size + (c.size + n.size)) ∷ right)
  freed-both p n hp hn = rw (hn, hp, add-zero)

-- the chunk between left and right has its own bytes, if it is free
own : (left : List Chunk) (c : Chunk) (right : List Chunk) → c.kind ≡ 0
    → FreeOver (reverse_aux left (c ∷ right)) (total left) (total left + c.size)
own left c right f = record {
  spot = record { left = left; chunk = c; right = right };
  cut = refl;
  free = f;
  from = le_refl _;
  to = le_refl _;
}

fewer : {cs : List Chunk} {s e t u : ℕ} → s ≤ t → u ≤ e → FreeOver cs s e → FreeOver cs t u
fewer l h o = record { spot = o.spot; cut = o.cut; free = o.free; from = le_trans o.from l; to = le_trans h o.to }

over_left : (left : List Chunk) (c : Chunk) (right : List Chunk) → c.kind ≡ 0
    → FreeOver (merge_left left c right) (total left) (total left + c.size)
over_left [] c right f = own [] c right f
over_left (p ∷ left) c right f =
    cond_cases (λ cs. FreeOver cs (total (p ∷ left)) (total (p ∷ left) + c.size)) (is_free p)
    (λ e. fewer (omega arith) (omega arith) (own left (grown p c.size) right refl))
    (λ e. own (p ∷ left) c right f)

over_right : (left : List Chunk) (c : Chunk) (right : List Chunk) → c.kind ≡ 0
    → FreeOver (merge_right left c right) (total left) (total left + c.size)
over_right left c [] f = over_left left c [] f
over_right left c (n ∷ right) f =
    cond_cases (λ cs. FreeOver cs (total left) (total left + c.size)) (is_free n)
    (λ e. fewer (le_refl _) (omega arith) (over_left left (grown c n.size) right refl))
    (λ e. over_left left c (n ∷ right) f)

-- An accepted free does that.
pub release-frees : (id : ℕ) (b after : Block) → release id b ≡ accepted after → Frees id b after
release-frees id b after e =
    released id b (Frees id b) after e (λ z l. record {
      spot = z;
      live = l;
      chunks = refl;
      bytes = fewer (le_refl _) (omega arith) (over_right z.left (grown z.chunk 0) z.right refl);
    })

module _ (Q : List Chunk → Type 0) (take_in : TakesIn Q) where
  merged-left : (left : List Chunk) (c : Chunk) (right : List Chunk) → c.kind ≡ 0
      → Q (reverse_aux left (c ∷ right)) → Q (merge_left left c right)
  merged-left [] c right f h = h
  merged-left (p ∷ left) c right f h =
      cond_cases Q (is_free p) (λ e. take_in left p c right (eqb-true _ _ e) f h) (λ e. h)

  merged-right : (left : List Chunk) (c : Chunk) (right : List Chunk) → c.kind ≡ 0
      → Q (reverse_aux left (c ∷ right)) → Q (merge_right left c right)
  merged-right left c [] f h = merged-left left c [] f h
  merged-right left c (n ∷ right) f h =
      cond_cases Q (is_free n)
      (λ e. merged-left left (grown c n.size) right refl (take_in left c n right f (eqb-true _ _ e) h))
      (λ e. merged-left left c (n ∷ right) f h)

  -- What holds once the chunk's kind and label are 0 holds once its free neighbours are merged.
  pub merged : (z : Spot) → Q (replaced z (grown z.chunk 0)) → Q (freed z)
  merged z h = merged-right z.left (grown z.chunk 0) z.right refl h
