-- Every accepted call keeps a block sound. Assumes nothing.
use Rattle.std.specs.Prelude.{ℕ, suc, ◌≤◌, ◌<◌, ◌≢◌, ◌≡◌, refl}
use Rattle.std.proofs.Common.{zero-le, le_refl, arith, sym, ◌∙◌, eqb-true}
use mathlib.Core.List.{List, [], ◌∷◌, reverse_aux}
use Rattle.std.proofs.lemmas.Bool.{eqb-false}
use Rattle.laws.specs.Cuts.{Converse, cut_all, cut-links, put_all, drop_all, swap-all, put-pairs, drop-pairs, swap-pairs}
use Rattle.laws.specs.Lists.{All, Pairwise, Head, Linked, all_map, head_map, head_of}
use Rattle.laws.specs.Reply.{accepted}
use Rattle.laws.specs.Tests.{cond_cases}
use Rattle.model.specs.Block.{Chunk, Block, Spot, is_free, fresh, largest_block}
use Rattle.model.specs.Choose.{Cut}
use Rattle.model.specs.Effects.{chunks_of, replaced}
use Rattle.model.proofs.Effects.{placed-cases, released, renamed}
use Rattle.model.specs.GivingBack.{grown, merge_left, merge_right, freed, release, rename}
use Rattle.model.specs.Merging.{NearestLive}
use Rattle.model.proofs.Merging.{merged}
use Rattle.model.specs.Placing.{Request, Placed, taken, new_slot, piece_of, remainder_of, split_off, with_chunks, place}
use Rattle.model.specs.Slots.{Unused}
use Rattle.model.proofs.Slots.{new_slot_lem}
use Rattle.model.specs.Soundness.{DifferentIds, DifferentSlots, NotBothFree, Sound}
use Rattle.model.proofs.Totals.{replaced-total, split-total, freed-total}

-- ---- what the rules say of each chunk, in a table of so many slots whose next id is given

abbrev Id : ℕ → Chunk → Type 0
Id next c = (1 ≤ c.id) × (c.id < next)

abbrev Sized : Chunk → Type 0
Sized c = 1 ≤ c.size

abbrev Kind : Chunk → Type 0
Kind c = c.kind ≤ 2

abbrev Label : Chunk → Type 0
Label c = c.kind ≡ 0 → c.label ≡ 0

abbrev Slot : ℕ → Chunk → Type 0
Slot slots c = (1 ≤ c.slot) × (c.slot ≤ slots)

-- the chunk under another kind and label
abbrev live_as : ℕ → ℕ → Chunk → Chunk
live_as kind label c = record { slot = c.slot; id = c.id; size = c.size; kind = kind; label = label }

-- ---- another chunk in the place of that of z, and one more before it

module _ (z : Spot) where
  all-with : (P : Chunk → Type 0) (d : Chunk) → (P z.chunk → P d) → All P (chunks_of z) → All P (replaced z d)
  all-with P d f h = swap-all P z.left z.chunk d z.right f h

  pairs-with : (R : Chunk → Chunk → Type 0) (d : Chunk) → ((x : Chunk) → R x z.chunk → R x d)
      → ((x : Chunk) → R z.chunk x → R d x) → Pairwise R (chunks_of z) → Pairwise R (replaced z d)
  pairs-with R d f g h = swap-pairs R z.left z.chunk d z.right f g h

  all-and : (P : Chunk → Type 0) (n d : Chunk) → P n → All P (replaced z d) → All P (reverse_aux z.left (n ∷ d ∷ z.right))
  all-and P n d p h = put_all P z.left n (d ∷ z.right) p h

  pairs-and : (R : Chunk → Chunk → Type 0) (n d : Chunk) → All (λ x. R x n × R n x) (replaced z d)
      → Pairwise R (replaced z d) → Pairwise R (reverse_aux z.left (n ∷ d ∷ z.right))
  pairs-and R n d p h = put-pairs R z.left n (d ∷ z.right) p h

-- ---- merging

-- what holds of each chunk, also where it is free and longer, holds after a free
all_freed : (P : Chunk → Type 0) → ((c : Chunk) (n : ℕ) → P c → P (grown c n)) → (z : Spot) → All P (chunks_of z) → All P (freed z)
all_freed P grow z h =
    merged (All P) (λ l p c r f g k. swap-all P l p (grown p c.size) r (grow p c.size) (drop_all P l p c r k)) z
    (all-with z P (grown z.chunk 0) (grow z.chunk 0) h)

-- the same of each pair
pairs_freed : (R : Chunk → Chunk → Type 0) → ((x c : Chunk) (n : ℕ) → R x c → R x (grown c n))
    → ((x c : Chunk) (n : ℕ) → R c x → R (grown c n) x) → (z : Spot) → Pairwise R (chunks_of z) → Pairwise R (freed z)
pairs_freed R before after z h =
    merged (Pairwise R)
    (λ l p c r f g k.
    let n = c.size in
    swap-pairs R l p (grown p n) r (λ x. before x p n) (λ x. after x p n) (drop-pairs R l p c r k)) z
    (pairs-with z R (grown z.chunk 0) (λ x. before x z.chunk 0) (λ x. after x z.chunk 0) h)

-- no two neighbours are free on either side of a chunk: then none are once it is merged
links_left : (left : List Chunk) (c : Chunk) (right : List Chunk) → Linked (Converse NotBothFree) left
    → Linked NotBothFree right → NearestLive right → Linked NotBothFree (merge_left left c right)
links_left [] c right hl hr k = (head_map (λ y n e. n) right k, hr)
links_left (p ∷ left) c right hl hr k =
    cond_cases (Linked NotBothFree) (is_free p)
    (λ e. (cut-links NotBothFree left (grown p c.size ∷ right)).1
    (hl.1, (head_map (λ y n w. n) right k, hr), head_map (λ y q w. absurd (q w (eqb-true _ _ e))) left hl.0))
    (λ e. (cut-links NotBothFree (p ∷ left) (c ∷ right)).1
    (hl, (head_map (λ y n w. n) right k, hr), λ w. absurd (eqb-false _ _ e w)))

links_right : (left : List Chunk) (c : Chunk) (right : List Chunk) → Linked (Converse NotBothFree) left
    → Linked NotBothFree right → Linked NotBothFree (merge_right left c right)
links_right left c [] hl hr = links_left left c [] hl hr tt
links_right left c (n ∷ right) hl hr =
    cond_cases (Linked NotBothFree) (is_free n)
    (λ e. links_left left (grown c n.size) right hl hr.1 (head_map (λ y q. q (eqb-true _ _ e)) right hr.0))
    (λ e. links_left left c (n ∷ right) hl hr (eqb-false _ _ e))

-- ---- a sound block that is cut at the chunk of z

module _ (b : Block) (z : Spot) (s : Sound (with_chunks b (chunks_of z))) where
  -- the neighbours on the left, on the right, and those of the chunk
  neighbours : Linked (Converse NotBothFree) z.left
      × Linked NotBothFree (z.chunk ∷ z.right) × Head (λ x. NotBothFree x z.chunk) z.left
  neighbours = (cut-links NotBothFree z.left (z.chunk ∷ z.right)).0 s.neighbours

  -- the chunk is given back
  freed-sound : Sound (with_chunks b (freed z))
  freed-sound = record {
    slots = s.slots;
    size = s.size;
    next = s.next;
    distinct = pairs_freed DifferentIds (λ x c n h. h) (λ x c n h. h) z s.distinct;
    ids = all_freed (Id b.next) (λ c n h. h) z s.ids;
    sizes = all_freed Sized (λ c n h. omega arith) z s.sizes;
    kinds = all_freed Kind (λ c n h. zero-le) z s.kinds;
    labels = all_freed Label (λ c n h e. refl) z s.labels;
    places = all_freed (Slot b.slots) (λ c n h. h) z s.places;
    apart = pairs_freed DifferentSlots (λ x c n h. h) (λ x c n h. h) z s.apart;
    whole = freed-total z ∙ s.whole;
    neighbours = links_right z.left (grown z.chunk 0) z.right neighbours.0 neighbours.1.1;
  }

  -- the chunk is live under a kind and label
  live-sound : (kind label : ℕ) → kind ≢ 0 → kind ≤ 2 → Sound (with_chunks b (replaced z (live_as kind label z.chunk)))
  live-sound kind label n l =
      let new = live_as kind label z.chunk in
      record {
        slots = s.slots;
        size = s.size;
        next = s.next;
        distinct = pairs-with z DifferentIds new (λ x h. h) (λ x h. h) s.distinct;
        ids = all-with z (Id b.next) new (λ h. h) s.ids;
        sizes = all-with z Sized new (λ h. h) s.sizes;
        kinds = all-with z Kind new (λ h. l) s.kinds;
        labels = all-with z Label new (λ h e. absurd (n e)) s.labels;
        places = all-with z (Slot b.slots) new (λ h. h) s.places;
        apart = pairs-with z DifferentSlots new (λ x h. h) (λ x h. h) s.apart;
        whole = replaced-total z new refl ∙ s.whole;
        neighbours = (cut-links NotBothFree z.left (new ∷ z.right)).1
            (neighbours.0, (head_of (λ y e. absurd (n e)) z.right, neighbours.1.1), head_of (λ x e. n) z.left);
      }

  -- the chunk is split: its left piece is live under the next id, in an empty slot
  split-sound : (r : Request) → z.chunk.kind ≡ 0 → r.kind ≢ 0 → r.kind ≤ 2 → 1 ≤ taken r z → taken r z < z.chunk.size
      → 1 ≤ new_slot b → new_slot b ≤ b.slots → Unused (new_slot b) (chunks_of z) → Sound (split_off r z b)
  split-sound r f n l some larger one last unused =
      let piece = piece_of r (new_slot b) b.next (taken r z) in
      let rest = remainder_of z.chunk (taken r z) in
      let ids : All (Id b.next) (replaced z rest) = all-with z (Id b.next) rest (λ h. h) s.ids in
      let other : Unused (new_slot b) (replaced z rest) = all-with z (λ c. c.slot ≢ new_slot b) rest (λ h. h) unused in
      let next = s.next in
      record {
        slots = s.slots;
        size = s.size;
        next = omega arith;
        distinct = pairs-and z DifferentIds piece rest
            (all_map (λ c h. (λ e. omega arith, λ e. omega arith)) (replaced z rest) ids)
            (pairs-with z DifferentIds rest (λ x h. h) (λ x h. h) s.distinct);
        ids = all-and z (Id (suc b.next)) piece rest (omega arith, omega arith)
            (all_map (λ c h. (h.0, omega arith)) (replaced z rest) ids);
        sizes = all-and z Sized piece rest some (all-with z Sized rest (λ h. omega arith) s.sizes);
        kinds = all-and z Kind piece rest l (all-with z Kind rest (λ h. zero-le) s.kinds);
        labels = all-and z Label piece rest (λ e. absurd (n e)) (all-with z Label rest (λ h e. refl) s.labels);
        places = all-and z (Slot b.slots) piece rest (one, last) (all-with z (Slot b.slots) rest (λ h. h) s.places);
        apart = pairs-and z DifferentSlots piece rest
            (all_map (λ c h. (h, λ e. h (sym e))) (replaced z rest) other)
            (pairs-with z DifferentSlots rest (λ x h. h) (λ x h. h) s.apart);
        whole = split-total z r b (omega arith) ∙ s.whole;
        neighbours = (cut-links NotBothFree z.left (piece ∷ rest ∷ z.right)).1 (
          neighbours.0,
          (λ e. absurd (n e), (head_map (λ y q e. q f) z.right neighbours.1.0, neighbours.1.1)),
          head_of (λ x e. n) z.left,
        );
      }

-- ---- the calls

module _ (b : Block) (s : Sound b) where
  at-spot : (z : Spot) → Cut b.chunks z → Sound (with_chunks b (chunks_of z))
  at-spot z cut = rw cut s

  -- An accepted request leaves a sound block sound.
  pub place-keeps : (r : Request) (p : Placed) → place r b ≡ accepted p → Sound p.block
  place-keeps r p e =
      placed-cases r b s p e (λ q. Sound q.block)
      (λ z i w. live-sound b z (at-spot z i.cut) r.kind r.label i.live i.kind)
      (λ z i l n t.
      let unused = (new_slot_lem b).empty (omega arith) in
      split-sound b z (at-spot z i.cut) r i.free i.live i.kind i.some l (new_slot_lem b).from t (rw i.cut unused))

  -- So does an accepted free.
  pub release-keeps : (id : ℕ) (after : Block) → release id b ≡ accepted after → Sound after
  release-keeps id after e = released id b Sound after e (λ z l. freed-sound b z (at-spot z l.cut))

  -- And so does an accepted rename.
  pub rename-keeps : (id label : ℕ) (after : Block) → rename id label b ≡ accepted after → Sound after
  rename-keeps id label after e =
      renamed id b Sound label after e (λ z l.
      let kinds = (cut_all Kind z.left (z.chunk ∷ z.right)).0 (rw l.cut s.kinds) in
      live-sound b z (at-spot z l.cut) z.chunk.kind label l.live kinds.1.0)

-- A fresh block is sound.
pub fresh-sound : (size slots : ℕ) → 1 ≤ size → size ≤ largest_block → 1 ≤ slots → slots ≤ 512 → Sound (fresh size slots)
fresh-sound size slots a b c d = record {
  slots = (c, d);
  size = (a, b);
  next = le_refl 2;
  distinct = (tt, tt);
  ids = ((omega arith, omega arith), tt);
  sizes = (a, tt);
  kinds = (zero-le, tt);
  labels = (λ e. refl, tt);
  places = ((omega arith, c), tt);
  apart = (tt, tt);
  whole = omega arith;
  neighbours = (tt, tt);
}
