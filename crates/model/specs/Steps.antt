-- What a call does to a block and to the ranges that were handed out on it and not given back. Assumes nothing.
use Rattle.std.specs.Prelude.{ℕ, ◌↔◌, ◌≢◌, ◌≡◌}
use mathlib.Core.List.{◌∷◌, Memᴰ}
use Rattle.laws.specs.Reply.{accepted, refused}
use Rattle.model.specs.Block.{Block}
use Rattle.model.specs.GivingBack.{release, rename}
use Rattle.model.specs.Placing.{Request, Placed, place}
use Rattle.model.specs.Ranges.{in_without}
use Rattle.model.specs.Runs.{Range, State, step}
use Rattle.model.specs.Runs.Call.{allocate, free, rename_to}

module _ (s : State) where
  -- An accepted allocation leaves the block of its answer, and puts in the range of its answer, with the request's size
  -- and kind; the others stay.
  pub step-allocate : (r : Request) (p : Placed) → place r s.block ≡ accepted p
      → step (allocate r) s
      ≡ record {
        block = p.block;
        live = record { id = p.id; offset = p.offset; size = r.size; kind = r.kind } ∷ s.live;
      }
  step-allocate r p e = rw e

  -- An accepted free leaves the block of its answer, and the ranges that have another id than the one given back.
  pub step-free : (id : ℕ) (after : Block) → release id s.block ≡ accepted after
      → ((step (free id) s).block ≡ after)
      × ((x : Range) → Memᴰ x (step (free id) s).live ↔ (Memᴰ x s.live × (x.id ≢ id)))
  step-free id after e = (rw e, rw e (in_without id s.live))

  -- An accepted rename leaves the block of its answer, and all ranges.
  pub step-rename : (id label : ℕ) (after : Block) → rename id label s.block ≡ accepted after
      → step (rename_to id label) s ≡ record { block = after; live = s.live }
  step-rename id label after e = rw e

  -- A refused call changes nothing.
  pub refused-allocate : (r : Request) (n : ℕ) → place r s.block ≡ refused n → step (allocate r) s ≡ s
  refused-allocate r n e = rw e

  pub refused_free : (id n : ℕ) → release id s.block ≡ refused n → step (free id) s ≡ s
  refused_free id n e = rw e

  pub refused-rename : (id label n : ℕ) → rename id label s.block ≡ refused n → step (rename_to id label) s ≡ s
  refused-rename id label n e = rw e
