-- The search for a live chunk as a loop: the first that passes of what is ahead is the first of all. Assumes nothing.
use Prim.Native.Nat.{ℕ}
use mathlib.Core.Bool.{Bool, true, false, cond}
use mathlib.Core.List.{List, [], ◌∷◌}
use mathlib.Core.Logic.{◌≢◌}
use Rattle.std.specs.Prelude.{◌<◌, None, Some}
use mathlib.Core.Option as spot
use mathlib.Core.Path.{◌≡◌, refl, sym, ap, ◌∙◌}
use Rattle.model.specs.Block.{Chunk, Spot, spots}
use Rattle.model.specs.GivingBack.{find}
use Rattle.table.specs.Layout.{Slot, first_slot, next_at}
use Rattle.words.specs.Words.{block_of, sound}
use Rattle.words.specs.Spots.{InSlot}
use Rattle.words.proofs.Spots.{in_words}
use Rattle.search.specs.Along.{Along, along-first, along-here, along-next, along-held, along-end, ahead, ahead-falls}
use Rattle.search.specs.Held.{HeldIn, held_slot}
use Rattle.leaks.specs.Leaks.{Live, handed_out, is_from, live_from}
use Rattle.leaks.specs.Lives.{live_at, spot-words}
use Rattle.leaks.specs.LiveSlots.{is_from_at}

-- the test by the words of a slot is that of the chunk in it
from-spot : (ws : List ℕ) (k address : ℕ) (z : Spot) → InSlot ws k z → is_from address z ≡ is_from_at ws k address
unfolding is_from_at
from-spot ws k address z h = rw ((in_words h).kind, (in_words h).begins)

-- ---- the loop

-- The search is about to look at slot k.
pub record Finding (ws : List ℕ) (address k : ℕ) : Type 0 where
  left : List Chunk
  right : List Chunk
  along : Along ws k left right
  rest : find (is_from address) (spots left right) ≡ live_from address (block_of ws)

module _ (ws : List ℕ) (s : sound ws ≡ true) (address k : ℕ) where
  -- It begins with the first chunk.
  pub begin : k ≡ first_slot ws → Finding ws address k
  unfolding live_from
  begin e = record { left = []; right = (block_of ws).chunks; along = along-first ws s k e; rest = refl }

  module _ (h : Finding ws address k) where
    held : k ≢ 0 → HeldIn ws k
    held n = along-held ws s k h.left h.right h.along n

    -- A number other than 0 is a slot's,
    pub in_slot : k ≢ 0 → Slot ws k
    in_slot n = held_slot (held n)

    -- and the search ends.
    pub falls : k ≢ 0 → ahead ws (next_at ws k) < ahead ws k
    falls n = ahead-falls ws s k (held n) n

    -- At slot 0 all were looked at.
    pub ended : k ≡ 0 → None ≡ handed_out (live_from address (block_of ws))
    ended z =
        let e = along-end ws s k h.left h.right h.along z in
        ap handed_out (ap (λ (cs : List Chunk). find (is_from address) (spots h.left cs)) (sym e) ∙ h.rest)

    -- The first that passes is the answer.
    pub met : k ≢ 0 → is_from_at ws k address ≡ true → Some (live_at ws k) ≡ handed_out (live_from address (block_of ws))
    met n t = go h.right h.along h.rest
      where
        go : (right : List Chunk) → Along ws k h.left right
            → find (is_from address) (spots h.left right) ≡ live_from address (block_of ws)
            → Some (live_at ws k) ≡ handed_out (live_from address (block_of ws))
        go [] a q = absurd (n a.slot)
        go (c ∷ cs) a q =
            let z : Spot = record { left = h.left; chunk = c; right = cs } in
            let i = along-here ws s k h.left c cs a in
            let p : is_from address z ≡ true = from-spot ws k address z i ∙ t in
            ap (λ (l : Live). Some l) (spot-words ws k z i)
            ∙ ap handed_out
            (ap (λ (b : Bool). cond b (spot.some z) (find (is_from address) (spots (c ∷ h.left) cs))) (sym p) ∙ q)

    -- Any other is passed over.
    pub go_on : k ≢ 0 → is_from_at ws k address ≡ false → Finding ws address (next_at ws k)
    go_on n t = go h.right h.along h.rest
      where
        go : (right : List Chunk) → Along ws k h.left right
            → find (is_from address) (spots h.left right) ≡ live_from address (block_of ws)
            → Finding ws address (next_at ws k)
        go [] a q = absurd (n a.slot)
        go (c ∷ cs) a q =
            let z : Spot = record { left = h.left; chunk = c; right = cs } in
            let p : is_from address z ≡ false = from-spot ws k address z (along-here ws s k h.left c cs a) ∙ t in
            record {
              left = c ∷ h.left;
              right = cs;
              along = along-next ws s k h.left c cs a;
              rest = ap (λ (b : Bool). cond b (spot.some z) (find (is_from address) (spots (c ∷ h.left) cs))) (sym p) ∙ q;
            }
