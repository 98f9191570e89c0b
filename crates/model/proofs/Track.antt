-- The ranges that live chunks hold, by rising address, and the page rule between them. Theorems. Assumes nothing.
use Rattle.std.specs.Prelude.{ℕ, ◌+◌, ◌-◌, ◌≤◌, ◌<◌, ◌≢◌, ◌≡◌, refl}
use Rattle.std.proofs.Math.Decide.{ℕ_discrete}
use Rattle.std.proofs.Common.{arith, sym, ◌∙◌, ap, subst}
use mathlib.Core.List.Memᴰ
use mathlib.Core.List.{List, [], ◌∷◌, reverse_aux, Memᴰ}
use Rattle.laws.specs.Cuts.{Converse, cut_all, from-right}
use Rattle.laws.specs.Lists.{All, Pairwise, Head, all_map}
use Rattle.laws.specs.Rounding.{align_down}
use Rattle.laws.proofs.Rounding.{down_mono}
use Rattle.model.specs.Block.{Chunk, Spot, total, first}
use Rattle.model.specs.Choose.{Cut}
use Rattle.model.specs.GivingBack.{freed}
use Rattle.model.specs.Merging.{NearestLive}
use Rattle.model.proofs.Merging.{merged}
use Rattle.model.specs.Runs.{Range}
use Rattle.model.specs.Track.{Holds, Track, TrackBack, Parts, Held, Before, end, skip, hold, start, skipped, held}

-- Where the chunks are cut their ranges are.
pub cut-track : (l r : List Chunk) (zs : List Range) → Track 0 (reverse_aux l r) zs → Parts l r zs
cut-track [] r zs t = record { xs = []; ys = zs; whole = refl; left = start; right = t }
cut-track (c ∷ l) r zs t = let k = cut-track l (c ∷ r) zs t in go k.xs k.ys k.whole k.left k.right
  where
    go : (xs ys : List Range) → zs ≡ reverse_aux xs ys → TrackBack l xs → Track (total l) (c ∷ r) ys → Parts (c ∷ l) r zs
    go xs ys e a (skip z t') = record { xs = xs; ys = ys; whole = e; left = skipped z a; right = t' }
    go xs (y ∷ ys) e a (hold n h t') = record { xs = y ∷ xs; ys = ys; whole = e; left = held n h a; right = t' }

-- And what is cut is joined again.
pub join_track : {l r : List Chunk} {xs ys : List Range}
    → TrackBack l xs → Track (total l) r ys → Track 0 (reverse_aux l r) (reverse_aux xs ys)
join_track start t = t
join_track (skipped z a) t = join_track a (skip z t)
join_track (held n h a) t = join_track a (hold n h t)

-- A free chunk holds no range.
pub after_free_lem : (s : ℕ) (c : Chunk) (r : List Chunk) (ys : List Range)
    → c.kind ≡ 0 → Track s (c ∷ r) ys → Track (c.size + s) r ys
after_free_lem s c r ys z (skip y t) = t
after_free_lem s c r (x ∷ ys) z (hold n h t) = absurd (n z)

-- A live chunk holds one.
pub after-live : (s : ℕ) (c : Chunk) (r : List Chunk) (ys : List Range)
    → c.kind ≢ 0 → Track s (c ∷ r) ys → Held s c r ys
after-live s c r ys n (skip z t) = absurd (n z)
after-live s c r (y ∷ ys) n (hold k h t) = record { range = y; rest = ys; whole = refl; holds = h; track = t }

-- an address may be written in another way
pub track_at : {s t : ℕ} {cs : List Chunk} {xs : List Range} → s ≡ t → Track s cs xs → Track t cs xs
track_at e t = rw e at t

-- ---- from a live chunk to its range, and back

-- A live chunk holds one of the ranges.
pub range-of : (z : Spot) (xs : List Range) → z.chunk.kind ≢ 0
    → Track 0 (reverse_aux z.left (z.chunk ∷ z.right)) xs
    → (x : Range) × Memᴰ x xs × Holds (first z) z.chunk x
range-of z xs n t =
    let parts = cut-track z.left (z.chunk ∷ z.right) xs t in
    let h = after-live (first z) z.chunk z.right parts.ys n parts.right in
    (h.range, among parts.xs parts.whole h.whole, h.holds)
  where
    among : {x : Range} (l : List Range) {ys rest : List Range} → xs ≡ reverse_aux l ys → ys ≡ x ∷ rest → Memᴰ x xs
    among l {ys} e f = rw e (from-right l ys _ (rw f (Memᴰ.head refl)))

-- Each range is held by a live chunk, where the chunks begin at what those before them come to.
chunk_from : (l : List Chunk) {v : ℕ} {r : List Chunk} {xs : List Range} (x : Range) → Track v r xs → v ≡ total l → Memᴰ x xs
    → (z : Spot) × Cut (reverse_aux l r) z × (z.chunk.kind ≢ 0) × Holds (first z) z.chunk x
chunk_from l x end at m = absurd (Memᴰ.not-nil m)
chunk_from l x (skip {c = c} z t) at m = chunk_from (c ∷ l) x t (ap (λ n. c.size + n) at) m
chunk_from l x (hold {c = c} {cs = cs} n h t) at (Memᴰ.head e) =
    (record { left = l; chunk = c; right = cs }, refl, n, subst (λ s. Holds s c x) at (rw e h))
chunk_from l x (hold {c = c} n h t) at (Memᴰ.tail m) = chunk_from (c ∷ l) x t (ap (λ k. c.size + k) at) m

-- Each range is held by a live chunk.
pub chunk_of : (l : List Chunk) {r : List Chunk} {xs : List Range} (x : Range) → Track (total l) r xs → Memᴰ x xs
    → (z : Spot) × Cut (reverse_aux l r) z × (z.chunk.kind ≢ 0) × Holds (first z) z.chunk x
chunk_of l x t m = chunk_from l x t refl m

-- ---- giving back

-- Merging free chunks moves no range.
pub track_freed : (z : Spot) (xs ys : List Range)
    → TrackBack z.left xs → Track (z.chunk.size + first z) z.right ys → Track 0 (freed z) (reverse_aux xs ys)
track_freed z xs ys a t =
    merged (λ cs. Track 0 cs (reverse_aux xs ys))
    (λ l p c r f g h.
    let k = cut-track l (p ∷ c ∷ r) (reverse_aux xs ys) h in
    let u = after_free_lem _ c r k.ys g (after_free_lem _ p (c ∷ r) k.ys f k.right) in
    rw k.whole (join_track k.left (skip refl (track_at (omega arith) u))))
    z (join_track a (skip refl (track_at (omega arith) t)))

-- ---- ids and ends

ids-right : (P : ℕ → Type 0) {s : ℕ} {cs : List Chunk} {xs : List Range}
    → Track s cs xs → All (λ c. P c.id) cs → All (λ x. P x.id) xs
ids-right P end h = tt
ids-right P (skip z t) h = ids-right P t h.1
ids-right P (hold n k t) h = (rw k.id h.0, ids-right P t h.1)

ids-left : (P : ℕ → Type 0) {cs : List Chunk} {xs : List Range}
    → TrackBack cs xs → All (λ c. P c.id) cs → All (λ x. P x.id) xs
ids-left P start h = tt
ids-left P (skipped z t) h = ids-left P t h.1
ids-left P (held n k t) h = (rw k.id h.0, ids-left P t h.1)

-- What holds of the chunks' ids on both sides of a cut holds of the ranges'.
pub ids-cut : (P : ℕ → Type 0) {s : ℕ} {l r : List Chunk} {xs ys : List Range} → TrackBack l xs → Track s r ys
    → All (λ c. P c.id) l → All (λ c. P c.id) r → All (λ x. P x.id) (reverse_aux xs ys)
ids-cut P {xs = xs} {ys = ys} a t h k = (cut_all (λ x. P x.id) xs ys).1 (ids-left P a h, ids-right P t k)

-- Every range ends no later than the chunks do.
pub within : {s : ℕ} {cs : List Chunk} {xs : List Range} (n : ℕ)
    → s + total cs ≡ n → Track s cs xs → All (λ x. x.offset + x.size ≤ n) xs
within n e end = tt
within n e (skip z t) = within n (omega arith) t
within n e (hold z k t) = (omega (arith, k.to), within n (omega arith) t)

module _ (G : ℕ) (pos : 0 < G) where
  before-trans : (x y z : Range) → 1 ≤ y.size → Before G x y → Before G y z → Before G x z
  before-trans x y z some p q = (omega arith, go (ℕ_discrete x.kind y.kind))
    where
      go : Dec (x.kind ≡ y.kind) → x.kind ≢ z.kind → align_down (x.offset + x.size - 1) G < align_down z.offset G
      go (yes e) d =
          let a = q.1 (λ f. d (e ∙ f)) in
          let b = down_mono {x = x.offset + x.size - 1} {y = y.offset + y.size - 1} pos (omega arith) in
          omega arith
      go (no n) d =
          let a = p.1 n in
          let b = down_mono {x = y.offset} {y = z.offset} pos (omega arith) in
          omega arith

  -- A new range keeps the rule with all before it where it keeps it with the nearest chunk before it, and that is live.
  pub before-all : (n : Range) (l : List Chunk) (xs : List Range)
      → TrackBack l xs → Pairwise (Converse (Before G)) xs → NearestLive l → total l ≤ n.offset
      → Head (λ p. p.kind ≢ n.kind → align_down (total l - 1) G < align_down n.offset G) l
      → All (λ x. Before G x n) xs
  before-all n l xs start p k a c = tt
  before-all n l xs (skipped z t) p k a c = absurd (k z)
  before-all n l (y ∷ xs) (held m h t) p k a c =
      let by : Before G y n = (omega (arith, h.to), λ d. rw h.to (c (λ e. d (h.kind ∙ e)))) in
      (by, all_map (λ x b. before-trans x y n h.some b by) xs p.0)

  -- And with all after it where it keeps it with the nearest chunk after it, and that is live.
  pub after-all : (n : Range) (s : ℕ) (r : List Chunk) (ys : List Range)
      → Track s r ys → Pairwise (Before G) ys → NearestLive r → n.offset + n.size ≤ s
      → Head (λ p. n.kind ≢ p.kind → align_down (n.offset + n.size - 1) G < align_down s G) r
      → All (Before G n) ys
  after-all n s r ys end p k a c = tt
  after-all n s r ys (skip z t) p k a c = absurd (k z)
  after-all n s r (y ∷ ys) (hold m h t) p k a c =
      let w = down_mono pos h.from in
      let by : Before G n y = (omega (arith, h.from), λ d. let v = c (λ e. d (e ∙ sym h.kind)) in omega arith) in
      (by, all_map (λ x b. before-trans n y x h.some by b) ys p.0)
