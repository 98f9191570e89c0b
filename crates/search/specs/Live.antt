-- The slot of the live chunk with an id. Assumes nothing.
use Rattle.std.specs.Prelude.{◌≡◌, ℕ, true, not, ◌≢◌, List, [], ◌==◌}
use Rattle.std.proofs.Math.Option.{Option, none, some}
use Rattle.std.proofs.Common.{subst, eqb-true}
use Rattle.std.proofs.lemmas.Bool.{eqb-false, not-true}
use Rattle.laws.specs.Tests.{both}
use Rattle.model.specs.Block.{Spot, is_free, spots}
use Rattle.model.specs.Choose.{Found}
use Rattle.model.proofs.Choose.{found}
use Rattle.model.specs.GivingBack.{is_live, find_live}
use Rattle.words.specs.Words.{block_of, sound}
use Rattle.words.specs.Spots.{InSlot}
use Rattle.search.specs.Found.{slot_of_spot, find-inside, found_none, found_some}

-- the slot of the live chunk with the id, 0 where there is none
unfoldable pub live_slot : List ℕ → ℕ → ℕ
live_slot ws id = slot_of_spot (find_live id (block_of ws))

-- A chunk passes as live under an id: it has the id, and it is not free.
pub live_chunk : (id : ℕ) (z : Spot) → is_live id z ≡ true → (z.chunk.id ≡ id) × (z.chunk.kind ≢ 0)
live_chunk id z e =
    let p = both (z.chunk.id == id) (not (is_free z.chunk)) e in
    (eqb-true _ _ p.0, eqb-false _ _ (not-true _ p.1))

module _ (ws : List ℕ) (s : sound ws ≡ true) (id : ℕ) where
  live_kind : (o : Option Spot) → Found (is_live id) (spots [] (block_of ws).chunks) o → (z : Spot) → o ≡ some z
      → z.chunk.kind ≢ 0
  live_kind o h z e =
      (live_chunk id z (subst (Found (is_live id) (spots [] (block_of ws).chunks)) e h).1).1

  -- Slot 0: no live chunk has the id.
  pub live-none : live_slot ws id ≡ 0 → find_live id (block_of ws) ≡ none
  unfolding live_slot
  live-none e = found_none ws s (find_live id (block_of ws)) (find-inside ws (is_live id)) e

  -- Any other slot holds the live chunk with the id.
  pub live-some : live_slot ws id ≢ 0
      → (z : Spot) × (find_live id (block_of ws) ≡ some z) × InSlot ws (live_slot ws id) z × (z.chunk.kind ≢ 0)
  unfolding live_slot
  live-some n =
      let f = found_some ws s (find_live id (block_of ws)) (find-inside ws (is_live id)) n in
      let h = found (is_live id) (spots [] (block_of ws).chunks) in
      (f.0, f.1, f.2, live_kind (find_live id (block_of ws)) h f.0 f.1)
