-- What an accepted call does: the chunk that it is about, and the block after it. Definitions. Assumes nothing.
use Rattle.std.specs.Prelude.{ℕ, ◌+◌, ◌≤◌, ◌≢◌, ◌≡◌}
use mathlib.Core.List.{List, ◌∷◌, reverse_aux}
use Rattle.laws.specs.Powers.{Pow2}
use Rattle.model.specs.Block.{Chunk, Block, Spot, first}
use Rattle.model.specs.Choose.{Cut}
use Rattle.model.specs.Fit.{Fits}
use Rattle.model.specs.Placing.{Request, chunk_before, chunk_after, offset_in, taken}
use Rattle.model.specs.Requests.{Formed}

-- the chunks of a block that is cut at the spot
abbrev pub chunks_of : Spot → List Chunk
chunks_of z = reverse_aux z.left (z.chunk ∷ z.right)

-- the same with d in the place of its chunk
abbrev pub replaced : Spot → Chunk → List Chunk
replaced z d = reverse_aux z.left (d ∷ z.right)

-- ---- placing

-- the request is put into the free chunk of z
pub record PutIn (r : Request) (b : Block) (z : Spot) : Type 0 where
  pub formed : Formed Pow2 r
  pub cut : Cut b.chunks z
  pub free : z.chunk.kind ≡ 0
  pub fits : Fits r (first z) z.chunk.size (chunk_before z) (chunk_after z) (offset_in r z)
  -- its kind is a live one
  pub live : r.kind ≢ 0
  pub kind : r.kind ≤ 2
  -- it takes padding plus size, to its last byte, and at least one byte
  pub padded : first z + taken r z ≡ offset_in r z + r.size
  pub some : 1 ≤ taken r z

-- ---- giving back and renaming

-- the chunk of z is live and has the id
pub record LiveIn (id : ℕ) (b : Block) (z : Spot) : Type 0 where
  pub cut : Cut b.chunks z
  pub named : z.chunk.id ≡ id
  pub live : z.chunk.kind ≢ 0
