-- The ranges handed out and not given back are those of the live chunks, and every call keeps it so. Theorems. Assumes nothing.
use Rattle.std.specs.Prelude.{ℕ, ◌+◌, ◌-◌, ◌≤◌, ◌<◌, true, ◌↔◌, ◌≢◌, ◌⊎◌, ◌≡◌, refl}
use Rattle.std.proofs.Common.{add_comm, arith, inl, inr, ⊎_elim, sym, ap, ◌∙◌}
use mathlib.Core.List.Memᴰ
use mathlib.Core.List.{List, [], ◌∷◌, reverse_aux, Memᴰ}
use Rattle.std.proofs.Math.Logic.{⊎_map}
use Rattle.std.proofs.Math.Logic.Iff
use Rattle.laws.specs.Cuts.{Converse, cut_all, cut-pairs, cut-links, in_part, from-left, from-right}
use Rattle.laws.specs.Lists.{All, Pairwise, Head, Linked, all_map, all_zip, all_at, all_of, head_map}
use Rattle.laws.proofs.Pages.{page_finer}
use Rattle.laws.specs.Powers.{Pow2, pow2_pos, pow2_divides}
use Rattle.laws.specs.Reply.{accepted}
use Rattle.laws.specs.Rounding.{align_down}
use Rattle.pages.specs.Vulkan.{may_stand}
use Rattle.model.specs.Block.{Chunk, Block, Spot, total, first, largest_block}
use Rattle.model.specs.Choose.{Cut}
use Rattle.model.specs.Effects.{PutIn}
use Rattle.model.proofs.Effects.{placed-cases, released, renamed}
use Rattle.model.proofs.Fit.{stand_apart}
use Rattle.model.specs.GivingBack.{relabel, release, rename}
use Rattle.model.proofs.Kept.{place-keeps, release-keeps, rename-keeps, fresh-sound}
use Rattle.model.specs.Merging.{NearestLive}
use Rattle.model.specs.Placing.{Request, Placed, last_of, next_of, asked, offset_in, taken, new_slot, whole_of, piece_of, remainder_of, take_whole, split_off, place}
use Rattle.model.specs.Ranges.{DifferentNames, in_without, pairs_without}
use Rattle.model.specs.Requests.{Formed}
use Rattle.model.specs.Runs.{Range, State, after_place, after_free, after_rename, begin}
use Rattle.model.specs.Soundness.{DifferentIds, NotBothFree, Sound}
use Rattle.model.specs.Track.{Holds, Track, TrackBack, Parts, Before}
use Rattle.model.proofs.Track.{cut-track, join_track, after_free_lem, after-live, track_at, track_freed, ids-cut, before-all, after-all}
use Rattle.model.specs.Track.Track.{end, skip, hold}
use Rattle.model.specs.Holding.{Holding}

-- ---- a range is handed out

-- the page rule at the request's granularity, tested against the nearest chunks, gives that at G, which divides it
module _ (G : ℕ) (pg : Pow2 G) (r : Request) (h : Formed Pow2 r) (coarse : G ≤ r.granularity) (live : r.kind ≢ 0) (o : ℕ) where
  finer : {x y : ℕ} → x ≤ y → align_down x r.granularity ≢ align_down y r.granularity → align_down x G < align_down y G
  finer l n = page_finer (pow2_pos pg) (pow2_pos h.granularity) (pow2_divides pg h.granularity coarse) l n

  rule-left : (l : List Chunk) → total l ≤ o → NearestLive l → may_stand r.granularity (last_of l) (asked r o) ≡ true
      → Head (λ p. p.kind ≢ r.kind → align_down (total l - 1) G < align_down o G) l
  rule-left [] a k t = tt
  rule-left (q ∷ l) a k t = λ d.
      let n = (stand_apart r.granularity (last_of (q ∷ l)) (asked r o)).0 t (k, live, d) in
      finer (omega arith) (rw (add_comm q.size (total l)) n)

  rule-right : (s : ℕ) (m : List Chunk) → o + r.size ≤ s → NearestLive m
      → may_stand r.granularity (asked r o) (next_of s m) ≡ true
      → Head (λ p. r.kind ≢ p.kind → align_down (o + r.size - 1) G < align_down s G) m
  rule-right s [] a k t = tt
  rule-right s (q ∷ m) a k t = λ d.
      finer (omega arith) ((stand_apart r.granularity (asked r o) (next_of s (q ∷ m))).0 t (live, k, d))

-- with n put in before ys there is n, and what was there
one_more : (xs ys : List Range) (n x : Range)
    → Memᴰ x (reverse_aux xs (n ∷ ys)) ↔ ((x ≡ n) ⊎ Memᴰ x (reverse_aux xs ys))
one_more xs ys n x = (
  λ m. from (in_part xs (n ∷ ys) x m),
  ⊎_elim (λ (e : x ≡ n). from-right xs (n ∷ ys) x (Memᴰ.head e))
      (λ (m : Memᴰ x (reverse_aux xs ys)).
      ⊎_elim (from-left xs (n ∷ ys) x)
      (λ (k : Memᴰ x ys). from-right xs (n ∷ ys) x (Memᴰ.tail k))
      (in_part xs ys x m)),
)
  where
    from : Memᴰ x xs ⊎ Memᴰ x (n ∷ ys) → (x ≡ n) ⊎ Memᴰ x (reverse_aux xs ys)
    from (inl k) = inr (from-left xs ys x k)
    from (inr (Memᴰ.head e)) = inl e
    from (inr (Memᴰ.tail k)) = inr (from-right xs ys x k)

known_new : (n : Range) (xs ys live : List Range) (x : Range) → Memᴰ x live ↔ Memᴰ x (reverse_aux xs ys)
    → Memᴰ x (n ∷ live) ↔ Memᴰ x (reverse_aux xs (n ∷ ys))
known_new n xs ys live x k =
    let p = one_more xs ys n x in (
      λ m. p.1 (⊎_map (λ (e : x ≡ n). e) k.0 (Memᴰ.cases_cons m)),
      λ m.
          ⊎_elim (λ (e : x ≡ n). Memᴰ.head e)
          (λ (q : Memᴰ x (reverse_aux xs ys)). Memᴰ.tail (k.1 q)) (p.0 m),
    )

-- the other chunks have other ids
other_ids : (b : Block) → Sound b → (z : Spot) → Cut b.chunks z
    → All (λ c. z.chunk.id ≢ c.id) z.left × All (λ c. z.chunk.id ≢ c.id) z.right
other_ids b s z cut =
    let d = (cut-pairs DifferentIds z.left (z.chunk ∷ z.right)).0 (rw cut s.distinct) in
    (all_map (λ c q k. q.0 (sym k)) z.left d.2, d.1.0)

module _ (G bytes : ℕ) (pg : Pow2 G) (r : Request) (s : State) (inv : Holding G bytes s) (coarse : G ≤ r.granularity) where
  module _ (z : Spot) (i : PutIn r s.block z) where
    abbrev range : ℕ → Range
    range id = record { id = id; offset = offset_in r z; size = r.size; kind = r.kind }

    holds-new : (c : Chunk) → c.kind ≡ r.kind → c.size ≡ taken r z → Holds (first z) c (range c.id)
    holds-new c k w = record {
      id = refl;
      kind = sym k;
      from = i.fits.above;
      to = omega (arith, i.padded);
      some = i.formed.size;
    }

    links : Linked (Converse NotBothFree) z.left
        × Linked NotBothFree (z.chunk ∷ z.right) × Head (λ x. NotBothFree x z.chunk) z.left
    links = (cut-links NotBothFree z.left (z.chunk ∷ z.right)).0 (rw i.cut inv.sound.neighbours)

    left_live : NearestLive z.left
    left_live = head_map (λ x q w. q w i.free) z.left links.2

    right_live : NearestLive z.right
    right_live = head_map (λ x q. q i.free) z.right links.1.0

    before-new : (id : ℕ) (xs : List Range) → TrackBack z.left xs → Pairwise (Converse (Before G)) xs
        → All (λ x. Before G x (range id)) xs
    before-new id xs t pairs =
        before-all G (pow2_pos pg) (range id) z.left xs t pairs left_live i.fits.above
        (rule-left G pg r i.formed coarse i.live (offset_in r z) z.left i.fits.above left_live i.fits.before)

    after-new : (id : ℕ) (ys : List Range) → Track (z.chunk.size + first z) z.right ys → Pairwise (Before G) ys
        → All (Before G (range id)) ys
    after-new id ys t pairs =
        let e = first z + z.chunk.size in
        after-all G (pow2_pos pg) (range id) e z.right ys (track_at (omega arith) t) pairs right_live i.fits.below
        (rule-right G pg r i.formed coarse i.live (offset_in r z) e z.right i.fits.below right_live i.fits.after)

    -- chunks m stand in the place of the free one and of those after it, and hold the new range first
    hand-out : (b : Block) (id : ℕ) (m : List Chunk) → b.size ≡ s.block.size → b.chunks ≡ reverse_aux z.left m
        → All (λ c. id ≢ c.id) z.left → All (λ c. id ≢ c.id) z.right
        → ((ys : List Range) → Track (z.chunk.size + first z) z.right ys → Track (first z) m (range id ∷ ys))
        → Sound b → Holding G bytes record { block = b; live = range id ∷ s.live }
    hand-out b id m es ec dl dr tracks sound =
        let parts = cut-track z.left (z.chunk ∷ z.right) inv.ranges (rw i.cut inv.track) in
        let xs = parts.xs in
        let ys = parts.ys in
        let t = after_free_lem (first z) z.chunk z.right ys i.free parts.right in
        let pairs = (cut-pairs (Before G) xs ys).0 (rw parts.whole at inv.ordered) in
        let before = before-new id xs parts.left pairs.0 in
        let after = after-new id ys t pairs.1 in
        let known : (x : Range) → Memᴰ x s.live ↔ Memᴰ x (reverse_aux xs ys) =
        λ x. rw parts.whole at (inv.known x) in
        let ids = ids-cut (λ k. id ≢ k) parts.left t dl dr in
        record {
          sound = sound;
          size = es ∙ inv.size;
          ranges = reverse_aux xs (range id ∷ ys);
          track = rw ec (join_track parts.left (tracks ys t));
          ordered = (cut-pairs (Before G) xs (range id ∷ ys)).1
              (pairs.0, (after, pairs.1), all_zip (λ x p q. (p, q)) xs before pairs.2);
          known = λ x. known_new (range id) xs ys s.live x (known x);
          distinct = (
            all_of (λ x. id ≢ x.id) s.live (λ x k. all_at (λ y. id ≢ y.id) (reverse_aux xs ys) ids x ((known x).0 k)),
            inv.distinct,
          );
        }

  -- An accepted request keeps it, with the range that it is handed.
  pub hold-place : (p : Placed) → place r s.block ≡ accepted p → Holding G bytes (after_place r s (accepted p))
  hold-place p e =
      placed-cases r s.block inv.sound p e (λ q. Sound q.block → Holding G bytes (after_place r s (accepted q)))
      (λ z i w.
      let new = whole_of r z.chunk in
      let others = other_ids s.block inv.sound z i.cut in
      hand-out z i (take_whole r z s.block) z.chunk.id (new ∷ z.right) refl refl
      others.0 others.1
      (λ ys t. hold i.live (holds-new z i new refl (sym w)) t))
      (λ z i l n u.
      let b = s.block in
      let piece = piece_of r (new_slot b) b.next (taken r z) in
      let rest = remainder_of z.chunk (taken r z) in
      let below = (cut_all (λ c. (1 ≤ c.id) × (c.id < b.next)) z.left (z.chunk ∷ z.right)).0 in
      let ids = below (rw i.cut inv.sound.ids) in
      hand-out z i (split_off r z b) b.next (piece ∷ rest ∷ z.right) refl refl
      (all_map (λ x q k. omega arith) z.left ids.0) (all_map (λ x q k. omega arith) z.right ids.1.1)
      (λ ys t. hold i.live (holds-new z i piece refl refl) (skip refl (track_at (omega arith) t))))
      (place-keeps s.block inv.sound r p e)

-- ---- a range is given back

track_label : (label s : ℕ) (c : Chunk) (r : List Chunk) (ys : List Range)
    → Track s (c ∷ r) ys → Track s (relabel label c ∷ r) ys
track_label label s c r ys (skip z k) = skip z k
track_label label s c r (y ∷ ys) (hold n h k) =
    hold n record { id = h.id; kind = h.kind; from = h.from; to = h.to; some = h.some } k

module _ (G bytes : ℕ) (s : State) (inv : Holding G bytes s) where
  parts_at : (z : Spot) → Cut s.block.chunks z → Parts z.left (z.chunk ∷ z.right) inv.ranges
  parts_at z cut = cut-track z.left (z.chunk ∷ z.right) inv.ranges (rw cut inv.track)

  -- An accepted free keeps it, without the ranges that have the id.
  pub hold-free : (id : ℕ) (after : Block) → release id s.block ≡ accepted after
      → Holding G bytes (after_free id s (accepted after))
  hold-free id after e =
      released id s.block (λ a. Sound a → Holding G bytes (after_free id s (accepted a))) after e
      (λ z l sound.
      let parts = parts_at z l.cut in
      let h = after-live (first z) z.chunk z.right parts.ys l.live parts.right in
      let xs = parts.xs in
      let y = h.range in
      let ys = h.rest in
      let whole : inv.ranges ≡ reverse_aux xs (y ∷ ys) = rw (← h.whole) parts.whole in
      let pairs = (cut-pairs (Before G) xs (y ∷ ys)).0 (rw whole at inv.ordered) in
      let others = other_ids s.block inv.sound z l.cut in
      let ids = ids-cut (λ k. z.chunk.id ≢ k) parts.left h.track others.0 others.1 in
      record {
        sound = sound;
        size = inv.size;
        ranges = reverse_aux xs ys;
        track = track_freed z xs ys parts.left h.track;
        ordered = (cut-pairs (Before G) xs ys).1 (pairs.0, pairs.1.1, all_map (λ x p. p.1) xs pairs.2);
        known = λ x.
            let p = one_more xs ys y x in
            let was : Memᴰ x s.live ↔ Memᴰ x (reverse_aux xs (y ∷ ys)) = rw whole at (inv.known x) in
            let left = in_without id s.live x in (
              λ k.
                  let m = left.0 k in
                  ⊎_elim (λ (q : x ≡ y). absurd (m.1 (ap (λ (u : Range). u.id) q ∙ h.holds.id ∙ l.named)))
                  (λ (q : Memᴰ x (reverse_aux xs ys)). q) (p.0 (was.0 m.0)),
              λ k.
                  let other = all_at (λ u. z.chunk.id ≢ u.id) (reverse_aux xs ys) ids x k in
                  left.1 (was.1 (p.1 (inr k)), λ q. other (l.named ∙ sym q)),
            );
        distinct = pairs_without DifferentNames id s.live inv.distinct;
      })
      (release-keeps s.block inv.sound id after e)

  -- An accepted rename keeps it.
  pub hold-rename : (id label : ℕ) (after : Block) → rename id label s.block ≡ accepted after
      → Holding G bytes (after_rename s (accepted after))
  hold-rename id label after e =
      renamed id s.block (λ a. Sound a → Holding G bytes (after_rename s (accepted a))) label after e
      (λ z l sound.
      let parts = parts_at z l.cut in
      let right = track_label label (first z) z.chunk z.right parts.ys parts.right in
      record {
        sound = sound;
        size = inv.size;
        ranges = inv.ranges;
        track = rw parts.whole (join_track parts.left right);
        ordered = inv.ordered;
        known = inv.known;
        distinct = inv.distinct;
      })
      (rename-keeps s.block inv.sound id label after e)

-- ---- the beginning

-- It holds of a fresh block, on which nothing was handed out.
pub hold_fresh : (G size slots : ℕ) → 1 ≤ size → size ≤ largest_block → 1 ≤ slots → slots ≤ 512
    → Holding G size (begin size slots)
hold_fresh G size slots a b c d = record {
  sound = fresh-sound size slots a b c d;
  size = refl;
  ranges = [];
  track = skip refl end;
  ordered = tt;
  known = λ x. Iff.rfl;
  distinct = tt;
}
