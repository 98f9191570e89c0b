-- The bytes of a block stay, and `allocated` moves by the bytes of the one chunk that a call is about. Theorems. Assumes nothing.
use Rattle.std.specs.Prelude.{ℕ, ◌+◌, ◌≤◌, ◌∷◌, ◌≢◌, ◌≡◌, refl}
use Rattle.std.proofs.Common.{arith, sym, ap, ◌∙◌, eq-eqb, ne_eqb}
use Rattle.laws.specs.Reply.{accepted}
use Rattle.laws.specs.Tests.{either}
use Rattle.model.specs.Block.{Chunk, Block, Spot, total, live_size, allocated}
use Rattle.model.specs.Effects.{chunks_of, replaced}
use Rattle.model.proofs.Effects.{placed-cases, released, renamed}
use Rattle.model.specs.GivingBack.{grown, freed, relabel, release, rename}
use Rattle.model.proofs.Merging.{merged}
use Rattle.model.specs.Placing.{Request, Placed, taken_at, taken, new_slot, whole_of, piece_of, remainder_of, take_whole, split_off, place}
use Rattle.model.specs.Room.{Taken}
use Rattle.model.specs.Soundness.{Sound}
use Rattle.model.specs.Sums.{total-cut, allocated-cut}
use Rattle.model.specs.Totals.{Rise, Fall}

-- ---- the bytes of all chunks stay

module _ (z : Spot) where
  all-before : total (chunks_of z) ≡ total z.left + (z.chunk.size + total z.right)
  all-before = total-cut z.left (z.chunk ∷ z.right)

  -- Another chunk of the same size in the place of one keeps the total.
  pub replaced-total : (d : Chunk) → d.size ≡ z.chunk.size → total (replaced z d) ≡ total (chunks_of z)
  replaced-total d e = omega (arith, all-before, total-cut z.left (d ∷ z.right))

  -- So does a split.
  pub split-total : (r : Request) (b : Block) → taken r z ≤ z.chunk.size
      → total (split_off r z b).chunks ≡ total (chunks_of z)
  split-total r b l =
      let piece = piece_of r (new_slot b) b.next (taken r z) in
      let rest = remainder_of z.chunk (taken r z) in
      omega (arith, all-before, total-cut z.left (piece ∷ rest ∷ z.right))

  -- And so does giving back.
  pub freed-total : total (freed z) ≡ total (chunks_of z)
  freed-total =
      merged (λ cs. total cs ≡ total (chunks_of z))
      (λ l p c r f g e. omega (arith, total-cut l (p ∷ c ∷ r), total-cut l (grown p c.size ∷ r)))
      z (replaced-total (grown z.chunk 0) (omega arith))

-- ---- the bytes of the live chunks move by those of one

-- A live chunk counts, and a free one does not.
pub live_size_lem : (c : Chunk) → c.kind ≢ 0 → live_size c ≡ c.size
live_size_lem c n = rw (ne_eqb c.kind 0 n)

pub free_size : (c : Chunk) → c.kind ≡ 0 → live_size c ≡ 0
free_size c e = rw (eq-eqb c.kind 0 e)

module _ (z : Spot) where
  live-before : allocated (chunks_of z) ≡ allocated z.left + (live_size z.chunk + allocated z.right)
  live-before = allocated-cut z.left (z.chunk ∷ z.right)

  module _ (r : Request) (b : Block) (free : z.chunk.kind ≡ 0) (live : r.kind ≢ 0) where
    whole-allocated : allocated (take_whole r z b).chunks ≡ allocated (chunks_of z) + z.chunk.size
    whole-allocated =
        let new = whole_of r z.chunk in
        omega (arith, live-before, allocated-cut z.left (new ∷ z.right), free_size z.chunk free, live_size_lem new live)

    split-allocated : allocated (split_off r z b).chunks ≡ allocated (chunks_of z) + taken r z
    split-allocated =
        let piece = piece_of r (new_slot b) b.next (taken r z) in
        let rest = remainder_of z.chunk (taken r z) in
        omega (
          arith,
          live-before,
          allocated-cut z.left (piece ∷ rest ∷ z.right),
          free_size z.chunk free,
          live_size_lem piece live,
        )

  freed-allocated : z.chunk.kind ≢ 0 → allocated (freed z) + z.chunk.size ≡ allocated (chunks_of z)
  freed-allocated n =
      merged (λ cs. allocated cs + z.chunk.size ≡ allocated (chunks_of z))
      (λ l p c r f g e.
      omega (arith, allocated-cut l (p ∷ c ∷ r), allocated-cut l (grown p c.size ∷ r), free_size p f, free_size c g))
      z (omega (arith, live-before, allocated-cut z.left (grown z.chunk 0 ∷ z.right), live_size_lem z.chunk n))

  relabel-allocated : (label : ℕ) → allocated (replaced z (relabel label z.chunk)) ≡ allocated (chunks_of z)
  relabel-allocated label = omega (arith, live-before, allocated-cut z.left (relabel label z.chunk ∷ z.right))

-- An accepted request makes a chunk live whose bytes are padding plus size, and `allocated` rises by exactly those.
pub place-allocated : (r : Request) (b : Block) → Sound b → (p : Placed) → place r b ≡ accepted p → Rise r b p
place-allocated r b s p e =
    placed-cases r b s p e (Rise r b)
    (λ z i w. record {
      spot = record { left = z.left; chunk = whole_of r z.chunk; right = z.right };
      cut = refl;
      live = record { id = refl; kind = refl; label = refl; above = i.fits.above; end = omega (arith, i.padded) };
      allocated = rw i.cut at (whole-allocated z r b i.free i.live);
    })
    (λ z i l n t. record {
      spot = record {
        left = z.left;
        chunk = piece_of r (new_slot b) b.next (taken r z);
        right = remainder_of z.chunk (taken r z) ∷ z.right;
      };
      cut = refl;
      live = record { id = refl; kind = refl; label = refl; above = i.fits.above; end = omega (arith, i.padded) };
      allocated = rw i.cut at (split-allocated z r b i.free i.live);
    })

-- Counted from the first byte of the chunk that the request is put into, these are padding plus size.
pub place-rises : (r : Request) (b : Block) (p : Placed) (t : Taken r b p) → r.kind ≢ 0
    → allocated p.block.chunks ≡ allocated b.chunks + taken r t.spot
unfolding taken_at
place-rises r b p t live =
    let z = t.spot in
    let m = t.best.room in
    let fits : taken r z ≤ z.chunk.size = omega (arith, t.offset, m.above, m.below) in
    either _ (taken r z) z.chunk.size
    (λ l.
    ap (λ (x : Block). allocated x.chunks) (t.part l).1 ∙ (rw m.cut at (split-allocated z r b m.free live)))
    (λ l.
    let q : taken r z ≡ z.chunk.size = omega arith in
    ap (λ (x : Block). allocated x.chunks) (t.whole q).1 ∙ (rw m.cut at (whole-allocated z r b m.free live))
    ∙ ap (λ (n : ℕ). allocated b.chunks + n) (sym q))

-- An accepted free lowers `allocated` by exactly the size of the live chunk with the id.
pub release-allocated : (id : ℕ) (b after : Block) → release id b ≡ accepted after → Fall id b after
release-allocated id b after e =
    released id b (Fall id b) after e
    (λ z l. record { spot = z; live = l; allocated = rw l.cut at (freed-allocated z l.live) })

-- An accepted rename keeps it.
pub rename-allocated : (id label : ℕ) (b after : Block) → rename id label b ≡ accepted after
    → allocated after.chunks ≡ allocated b.chunks
rename-allocated id label b after e =
    renamed id b (λ a. allocated a.chunks ≡ allocated b.chunks) label after e
    (λ z l. rw l.cut at (relabel-allocated z label))
