-- The slot of the chunk that is chosen for a request. Assumes nothing.
use Rattle.std.specs.Prelude.{◌≡◌, ℕ, Bool, true, ◌≢◌, List, [], ◌∷◌, ◌==◌, nat_le, nat_lt}
use Rattle.std.proofs.Math.Option.{Option, none, some}
use Rattle.std.proofs.Common.{subst, eqb-true}
use Rattle.laws.specs.Every.{every}
use Rattle.laws.specs.Tests.{both}
use Rattle.model.specs.Block.{Spot, first, is_free, spots}
use Rattle.model.specs.Choose.{Best}
use Rattle.model.proofs.Choose.{best-spot, cut-of_spot}
use Rattle.model.specs.Placing.{Request, fits_at, chunk_before, chunk_after, holds, chosen}
use Rattle.table.specs.Layout.{size_at, first_byte_at, kind_at}
use Rattle.words.specs.Words.{block_of, sound}
use Rattle.words.specs.Spots.{InSlot}
use Rattle.words.proofs.Spots.{in_all}
use Rattle.words.proofs.Written.{known}
use Rattle.search.specs.Fit.{before_at, after_at}
use Rattle.search.specs.Found.{slot_of_spot, Inside, found_none, found_some}

-- the slot of the chunk that is chosen, 0 where there is none
unfoldable pub best_slot : List ℕ → Request → ℕ
best_slot ws r = slot_of_spot (chosen r (block_of ws))

-- the chunk in slot k is free, holds the request, and has fewer bytes than `least`, the best so far
unfoldable pub better_at : List ℕ → ℕ → ℕ → Request → Bool
better_at ws k least r =
    every
    (nat_le r.size (size_at ws k)
    ∷ nat_lt (size_at ws k) least
    ∷ (kind_at ws k == 0)
    ∷ fits_at r (first_byte_at ws k) (size_at ws k) (before_at ws k) (after_at ws k)
    ∷ [])

module _ (ws : List ℕ) (s : sound ws ≡ true) (r : Request) where
  inside : (o : Option Spot) → Best (holds r) (spots [] (block_of ws).chunks) o → Inside ws o
  inside none h = tt
  inside (some z) h = cut-of_spot (block_of ws).chunks z h.member

  here : Inside ws (chosen r (block_of ws))
  here = inside (chosen r (block_of ws)) (best-spot (holds r) (block_of ws).chunks)

  -- what is chosen is free
  best-kind : (o : Option Spot) → Best (holds r) (spots [] (block_of ws).chunks) o → (z : Spot) → o ≡ some z
      → z.chunk.kind ≡ 0
  best-kind o h z e =
      let c = subst (Best (holds r) (spots [] (block_of ws).chunks)) e h in
      let fits = fits_at r (first z) z.chunk.size (chunk_before z) (chunk_after z) in
      eqb-true _ _ (both (is_free z.chunk) fits c.passed).0

  -- Slot 0: no free chunk holds the request.
  pub best_none : best_slot ws r ≡ 0 → chosen r (block_of ws) ≡ none
  unfolding best_slot
  best_none e = found_none ws s (chosen r (block_of ws)) here e

  -- Any other slot holds the chunk that is chosen, which is free and has no label.
  pub best-some : best_slot ws r ≢ 0
      → (z : Spot) × (chosen r (block_of ws) ≡ some z) × InSlot ws (best_slot ws r) z × (z.chunk.kind ≡ 0) × (z.chunk.label ≡ 0)
  unfolding best_slot
  best-some n =
      let f = found_some ws s (chosen r (block_of ws)) here n in
      let k = best-kind (chosen r (block_of ws)) (best-spot (holds r) (block_of ws).chunks) f.0 f.1 in
      let l = in_all f.2 (λ c. c.kind ≡ 0 → c.label ≡ 0) (known ws s).block.labels in
      (f.0, f.1, f.2, k, l k)
