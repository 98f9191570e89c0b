-- The first live chunk from an address on, by its slot. Assumes nothing.
use Rattle.std.specs.Prelude.{ℕ, true, List, ◌≢◌, ◌≡◌}
use Rattle.std.proofs.Math.Option.{none, some}
use Rattle.model.specs.Block.{Spot}
use Rattle.words.specs.Words.{block_of, sound}
use Rattle.words.specs.Spots.{InSlot}
use Rattle.search.specs.Found.{slot_of_spot, find-inside, found_none, found_some}
use Rattle.leaks.specs.Leaks.{is_from, live_from}

-- its slot, 0 where there is none
unfoldable pub slot_from : List ℕ → ℕ → ℕ
slot_from ws address = slot_of_spot (live_from address (block_of ws))

module _ (ws : List ℕ) (s : sound ws ≡ true) (address : ℕ) where
  -- Slot 0: no live chunk begins at the address or later.
  pub from-none : slot_from ws address ≡ 0 → live_from address (block_of ws) ≡ none
  unfolding slot_from live_from
  from-none e = found_none ws s (live_from address (block_of ws)) (find-inside ws (is_from address)) e

  -- Any other slot holds the first of them.
  pub from_some : slot_from ws address ≢ 0
      → (z : Spot) × (live_from address (block_of ws) ≡ some z) × InSlot ws (slot_from ws address) z
  unfolding slot_from live_from
  from_some n = found_some ws s (live_from address (block_of ws)) (find-inside ws (is_from address)) n
