-- What an accepted call does: the chunk that it is about, and the block after it. Theorems. Assumes nothing.
use Rattle.std.specs.Prelude.{ℕ, ◌≤◌, ◌<◌, not, ◌≢◌, ◌⊎◌, ◌≡◌, eqb}
use Rattle.std.proofs.Common.{arith, inl, inr, sym, ◌∙◌, eqb-true}
use mathlib.Core.List.{[]}
use Rattle.std.proofs.Math.Option.{Option, none, some}
use Rattle.std.proofs.lemmas.Bool.{eqb-false, not-true}
use Rattle.laws.specs.Powers.{Pow2}
use Rattle.laws.specs.Reply.{accepted, not_refused}
use Rattle.laws.specs.Tests.{both}
use Rattle.model.specs.Block.{Block, Spot, is_free, spots, no_id}
use Rattle.model.specs.Choose.{Found}
use Rattle.model.proofs.Choose.{found, cut-of_spot}
use Rattle.model.specs.GivingBack.{is_live, find_live, freed, relabel, release_at, release, rename_at, rename}
use Rattle.model.specs.Placing.{Request, Placed, offset_in, taken_at, taken, chosen, new_slot, with_chunks, place_in, place}
use Rattle.model.specs.Put.{FitsIn, Choice, whole_in, piece_in}
use Rattle.model.proofs.Put.{answers, opened, accepted-formed, choice-fits}
use Rattle.model.specs.Requests.{Formed}
use Rattle.model.specs.Soundness.{Sound}
use Rattle.model.specs.Effects.{replaced, PutIn, LiveIn}

-- A kind of 1 or 2 is a live one.
pub live_kind : (k : ℕ) → (k ≡ 1) ⊎ (k ≡ 2) → (k ≢ 0) × (k ≤ 2)
live_kind k (inl e) = (λ z. omega arith, omega arith)
live_kind k (inr e) = (λ z. omega arith, omega arith)

put_in : {r : Request} {b : Block} {z : Spot} → Formed Pow2 r → FitsIn r b z (offset_in r z) → PutIn r b z
unfolding taken_at
put_in h k = record {
  formed = h;
  cut = k.cut;
  free = k.free;
  fits = k.fits;
  live = (live_kind _ h.kind).0;
  kind = (live_kind _ h.kind).1;
  padded = omega (arith, k.fits.above);
  some = omega (arith, h.size);
}

-- An accepted request took the whole of a free chunk that it fills, or a part of a larger one; for that the next id was
-- not the last, and a slot was empty. What holds in both cases holds of the answer.
pub placed-cases : (r : Request) (b : Block) → Sound b → (p : Placed) → place r b ≡ accepted p → (P : Placed → Type 0)
    → ((z : Spot) → PutIn r b z → taken r z ≡ z.chunk.size → P (whole_in r z b))
    → ((z : Spot) → PutIn r b z → taken r z < z.chunk.size → b.next ≢ no_id → new_slot b ≤ b.slots
    → P (piece_in r z b))
    → P p
placed-cases r b s p e P whole part = on (chosen r b) (choice-fits r h b s) (sym (opened r b h) ∙ e)
  where
    h : Formed Pow2 r
    h = accepted-formed r b p e

    on : (o : Option Spot) → Choice (FitsIn r b) r o → place_in r b o ≡ accepted p → P p
    on none k = λ q. absurd (not_refused (sym q))
    on (some z) k =
        let i : PutIn r b z = put_in h k.room in
        answers r b (λ a. a ≡ accepted p → P p) z
        (λ l n q. absurd (not_refused (sym q)))
        (λ l n u q. absurd (not_refused (sym q)))
        (λ l n u q. let w : piece_in r z b ≡ p = cc in rw (← w) (part z i l n u))
        (λ l q. let w : whole_in r z b ≡ p = cc in rw (← w) (whole z i (omega (arith, i.padded, i.fits.below))))

live_in : (id : ℕ) (b : Block) (z : Spot) → Found (is_live id) (spots [] b.chunks) (some z) → LiveIn id b z
live_in id b z f =
    let p = both (eqb z.chunk.id id) (not (is_free z.chunk)) f.1 in
    record {
      cut = cut-of_spot b.chunks z f.0;
      named = eqb-true _ _ p.0;
      live = eqb-false _ _ (not-true _ p.1);
    }

module _ (id : ℕ) (b : Block) (P : Block → Type 0) where
  -- An accepted free gave back the live chunk with the id. What holds of the block after that holds of the answer.
  pub released : (after : Block) → release id b ≡ accepted after
      → ((z : Spot) → LiveIn id b z → P (with_chunks b (freed z))) → P after
  unfolding release
  released after e f = on (find_live id b) (found (is_live id) (spots [] b.chunks)) e
    where
      on : (o : Option Spot) → Found (is_live id) (spots [] b.chunks) o → release_at b o ≡ accepted after → P after
      on none k q = absurd (not_refused (sym q))
      on (some z) k q = let w : with_chunks b (freed z) ≡ after = cc in rw (← w) (f z (live_in id b z k))

  -- An accepted rename gave that chunk the label, and changed nothing else.
  pub renamed : (label : ℕ) (after : Block) → rename id label b ≡ accepted after
      → ((z : Spot) → LiveIn id b z → P (with_chunks b (replaced z (relabel label z.chunk)))) → P after
  unfolding rename
  renamed label after e f = on (find_live id b) (found (is_live id) (spots [] b.chunks)) e
    where
      on : (o : Option Spot) → Found (is_live id) (spots [] b.chunks) o → rename_at label b o ≡ accepted after → P after
      on none k q = absurd (not_refused (sym q))
      on (some z) k q =
          let w : with_chunks b (replaced z (relabel label z.chunk)) ≡ after = cc in rw (← w) (f z (live_in id b z k))
