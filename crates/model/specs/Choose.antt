-- The chunk that is chosen: every chunk with its neighbours, and which of them `best` and `find` take. Definitions. Assumes nothing.
use Rattle.std.specs.Prelude.{◌≤◌, Bool, true, ◌≡◌}
use mathlib.Core.List.{List, ◌∷◌, reverse_aux, Memᴰ}
use Rattle.std.proofs.Math.Option.{Option, none, some}
use Rattle.model.specs.Block.{Chunk, Spot, first}

-- ---- the spots of a list of chunks

-- the spot is one of the chunks with its neighbours
abbrev pub Cut : List Chunk → Spot → Type 0
Cut cs z = reverse_aux z.left (z.chunk ∷ z.right) ≡ cs

-- the spot passes; no smaller one does, and none of its size that stands lower
pub record Chosen (passes : Spot → Bool) (zs : List Spot) (z : Spot) : Type 0 where
  pub member : Memᴰ z zs
  pub passed : passes z ≡ true
  pub smallest : (y : Spot) → Memᴰ y zs → passes y ≡ true → z.chunk.size ≤ y.chunk.size
  pub earliest : (y : Spot) → Memᴰ y zs → passes y ≡ true → z.chunk.size ≡ y.chunk.size → first z ≤ first y

abbrev pub Best : (Spot → Bool) → List Spot → Option Spot → Type 0
Best passes zs none = (y : Spot) → Memᴰ y zs → passes y ≡ true → ⊥
Best passes zs (some z) = Chosen passes zs z

-- ---- finding

abbrev pub Found : (Spot → Bool) → List Spot → Option Spot → Type 0
Found passes zs none = (y : Spot) → Memᴰ y zs → passes y ≡ true → ⊥
Found passes zs (some z) = Memᴰ z zs × (passes z ≡ true)
