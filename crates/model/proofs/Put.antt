-- Where a request is put, by the tests of `place`. Theorems. Assumes nothing.
use Prim.Native.Nat.{ℕ, zero, suc, ◌≤◌, ◌<◌}
use Rattle.std.proofs.Common.{arith, sym, eqb-true, eq-eqb, ltb-true, ltb-false}
use Rattle.std.specs.Prelude.{true, List, [], ◌∷◌, ◌≢◌, ◌≡◌, eqb, ltb}
use Rattle.std.proofs.Math.Option.{Option, none, some}
use Rattle.std.proofs.Math.Path.{refl}
use Rattle.std.proofs.lemmas.Bool.{eqb-false}
use Rattle.laws.specs.Cuts.{cut_all}
use Rattle.laws.specs.Lists.{All}
use Rattle.laws.specs.Powers.{Pow2}
use Rattle.laws.specs.Reply.{Reply, accepted, refused, not_refused}
use Rattle.laws.specs.Tests.{both, both_pass, cond_cases}
use Rattle.model.specs.Block.{Chunk, Block, Spot, total, is_free, first, spots, no_id}
use Rattle.model.specs.Choose.{Cut, Best}
use Rattle.model.proofs.Choose.{best-spot, cut-of_spot, spot-of_cut}
use Rattle.model.specs.Fit.{Touches}
use Rattle.model.proofs.Fit.{passed-fits, fits-least, fits-passes}
use Rattle.model.specs.Placing.{Request, Placed, last_of, next_of, chunk_before, chunk_after, fits_at, offset_in, taken, holds, chosen, new_slot, place_in, fault, unless_fault, place}
use Rattle.model.specs.Requests.{Formed}
use Rattle.model.proofs.Requests.{no_fault}
use Rattle.model.specs.Soundness.{Sound}
use Rattle.model.specs.Put.{piece_in, whole_in, Choice, FitsIn}

module _ (r : Request) (b : Block) where
  -- every answer for a chosen chunk, with when it is given
  pub answers : (P : Reply Placed → Type 0) (z : Spot)
      → (taken r z < z.chunk.size → b.next ≡ no_id → P (refused 8))
      → (taken r z < z.chunk.size → b.next ≢ no_id → b.slots < new_slot b → P (refused 9))
      → (taken r z < z.chunk.size → b.next ≢ no_id → new_slot b ≤ b.slots
      → P (accepted (piece_in r z b)))
      → (z.chunk.size ≤ taken r z → P (accepted (whole_in r z b)))
      → P (place_in r b (some z))
  answers P z no-id no_slot piece whole =
      cond_cases P (ltb (taken r z) z.chunk.size) (λ t.
      let l = ltb-true _ _ t in
      cond_cases P (eqb b.next no_id) (λ u. no-id l (eqb-true _ _ u)) (λ u.
      cond_cases P (ltb b.slots (new_slot b))
      (λ v. no_slot l (eqb-false _ _ u) (ltb-true _ _ v))
      (λ v. piece l (eqb-false _ _ u) (ltb-false _ _ v))))
      (λ t. whole (ltb-false _ _ t))

  -- A formed request is answered by the chunk that is chosen.
  pub opened : Formed Pow2 r → place r b ≡ place_in r b (chosen r b)
  unfolding place
  opened h = rw ((no_fault r).1 h)

  -- An accepted request is formed.
  pub accepted-formed : (p : Placed) → place r b ≡ accepted p → Formed Pow2 r
  unfolding place
  accepted-formed p e = (no_fault r).0 (on (fault r) e)
    where
      on : (n : ℕ) → unless_fault n (place_in r b (chosen r b)) ≡ accepted p → n ≡ 0
      on zero q = refl
      on (suc n) q = absurd (not_refused (sym q))

touches : (left : List Chunk) → All (λ c. 1 ≤ c.size) left → Touches (last_of left) (total left)
touches [] h n = absurd (n refl)
touches (c ∷ cs) h n = (omega arith, h.0)

-- The chunk after is taken by its recorded first byte.
pub next_begins : (address : ℕ) (right : List Chunk) → (next_of address right).offset ≡ address
next_begins address [] = refl
next_begins address (c ∷ cs) = refl

module _ (r : Request) (h : Formed Pow2 r) (b : Block) (sound : Sound b) where
  touching : (z : Spot) → Cut b.chunks z → Touches (chunk_before z) (first z)
  touching z e =
      touches z.left ((cut_all (λ c. 1 ≤ c.size) z.left (z.chunk ∷ z.right)).0 (rw e sound.sizes)).0

  fits-holds : (z : Spot) (o : ℕ) → FitsIn r b z o → holds r z ≡ true
  fits-holds z o k =
      both_pass (eq-eqb _ _ k.free)
      (fits-passes r h (first z) (chunk_before z) (touching z k.cut) z.chunk.size (chunk_after z)
      (next_begins _ z.right) o k.fits)

  holds_fits : (z : Spot) → Cut b.chunks z → holds r z ≡ true → FitsIn r b z (offset_in r z)
  holds_fits z e t =
      let p = both (is_free z.chunk) (fits_at r (first z) z.chunk.size (chunk_before z) (chunk_after z)) t in
      record {
        cut = e;
        free = eqb-true _ _ p.0;
        fits = passed-fits r h (first z) (chunk_before z) (touching z e) z.chunk.size (chunk_after z) p.1;
      }

  -- On a sound block the chunk that is chosen is the smallest into which the request fits, of equals the lowest, and the
  -- offset is the lowest there that fits.
  pub choice-fits : Choice (FitsIn r b) r (chosen r b)
  choice-fits = on (chosen r b) (best-spot (holds r) b.chunks)
    where
      on : (s : Option Spot) → Best (holds r) (spots [] b.chunks) s → Choice (FitsIn r b) r s
      on none k = λ z o f. k z (spot-of_cut b.chunks z f.cut) (fits-holds z o f)
      on (some z) k = record {
        room = holds_fits z (cut-of_spot b.chunks z k.member) k.passed;
        lowest = λ o f.
            fits-least r h (first z) (chunk_before z) (touching z f.cut) z.chunk.size (chunk_after z) o f.fits;
        smallest = λ y o f. k.smallest y (spot-of_cut b.chunks y f.cut) (fits-holds y o f);
        earliest = λ y o f. k.earliest y (spot-of_cut b.chunks y f.cut) (fits-holds y o f);
      }
