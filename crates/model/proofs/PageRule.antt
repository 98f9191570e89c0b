-- On a sound block the tests of the two neighbours say what Vulkan's rule says. Assumes nothing.
use Rattle.std.specs.Prelude.{ℕ, ◌+◌, ◌≤◌, true, List, [], ◌∷◌, ◌↔◌, ◌≡◌, refl}
use Rattle.std.proofs.Common.{arith, ⊎_elim, sym, ◌∙◌}
use Rattle.laws.specs.Cuts.{cut_all}
use Rattle.laws.specs.Lists.{All}
use Rattle.pages.specs.Vulkan.{OneLinear, PagesApart, may_stand}
use Rattle.pages.proofs.Vulkan.{may-stand}
use Rattle.model.specs.Block.{Chunk, Block, Spot, total, first, largest_block}
use Rattle.model.specs.Choose.{Cut}
use Rattle.model.specs.Placing.{Request, last_of, next_of, chunk_before, chunk_after, asked}
use Rattle.model.proofs.Put.{next_begins}
use Rattle.model.specs.Requests.{WellFormed}
use Rattle.model.specs.Soundness.{Sound}
use Rattle.model.specs.Sums.{total-cut}

last_ends : (left : List Chunk) → (last_of left).offset + (last_of left).size ≡ total left
last_ends [] = refl
last_ends (c ∷ cs) = omega arith

last_kind : (left : List Chunk) → All (λ c. c.kind ≤ 2) left → (last_of left).kind ≤ 2
last_kind [] h = omega arith
last_kind (c ∷ cs) h = h.0

next_kind : (address : ℕ) (right : List Chunk) → All (λ c. c.kind ≤ 2) right → (next_of address right).kind ≤ 2
next_kind address [] h = omega arith
next_kind address (c ∷ cs) h = h.0

-- a well-formed request's bytes lie in a chunk of a sound block
module _ (r : Request) (h : WellFormed r) (b : Block) (sound : Sound b) (z : Spot) (cut : Cut b.chunks z)
    (offset : ℕ) (above : first z ≤ offset) (below : offset + r.size ≤ first z + z.chunk.size) where
  inside : first z + z.chunk.size ≤ largest_block
  inside =
      let e : first z + total (z.chunk ∷ z.right) ≡ b.size =
      sym (total-cut z.left (z.chunk ∷ z.right)) ∙ rw cut sound.whole in
      omega (arith, sound.size)

  kinds : All (λ c. c.kind ≤ 2) z.left × All (λ c. c.kind ≤ 2) (z.chunk ∷ z.right)
  kinds = (cut_all (λ c. c.kind ≤ 2) z.left (z.chunk ∷ z.right)).0 (rw cut sound.kinds)

  live_kind : r.kind ≤ 2
  live_kind = ⊎_elim (λ (e : r.kind ≡ 1). omega arith) (λ (e : r.kind ≡ 2). omega arith) h.kind

  -- The chunk before may stand so exactly when Vulkan's rule holds between it and the request.
  pub before-rule : may_stand r.granularity (chunk_before z) (asked r offset) ≡ true
      ↔ (OneLinear (chunk_before z) (asked r offset) → PagesApart r.granularity (chunk_before z) (asked r offset))
  before-rule =
      may-stand r.granularity (chunk_before z) (asked r offset) h.granularity
      (record { under = omega (arith, last_ends z.left); reach = omega (arith, inside) })
      (last_kind z.left kinds.0) live_kind

  -- And the chunk after exactly when it holds between the request and that.
  pub after-rule : may_stand r.granularity (asked r offset) (chunk_after z) ≡ true
      ↔ (OneLinear (asked r offset) (chunk_after z) → PagesApart r.granularity (asked r offset) (chunk_after z))
  after-rule =
      let e = next_begins (first z + z.chunk.size) z.right in
      may-stand r.granularity (asked r offset) (chunk_after z) h.granularity
      (record { under = omega arith; reach = omega (arith, inside) })
      live_kind (next_kind _ z.right kinds.1.1)
