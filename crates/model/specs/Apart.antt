-- Demand 3, its second half: after any calls the live ranges are apart, and are the live chunks'. Definitions. Assumes nothing.
use Rattle.std.specs.Prelude.{ℕ, ◌+◌, ◌≤◌, ◌<◌, ◌≢◌, ◌≡◌}
use mathlib.Core.List.{List, [], ◌∷◌}
use Rattle.laws.specs.Reply.{accepted}
use Rattle.laws.specs.Rounding.{align_down}
use Rattle.model.specs.Block.{Block, Spot, first}
use Rattle.model.specs.Placing.{Placed, place}
use Rattle.model.specs.Runs.{Call, allocate, free, rename_to, Range, State, step}
use Rattle.model.specs.Track.{Holds}

-- ---- any calls

-- an allocation that is accepted names a granularity of at least G
abbrev pub Coarse : ℕ → Call → Block → Type 0
Coarse G (allocate r) b = (p : Placed) → place r b ≡ accepted p → G ≤ r.granularity
Coarse G (free id) b = Unit {0}
Coarse G (rename_to id label) b = Unit {0}

-- so does every one along a run
abbrev pub AllCoarse : ℕ → List Call → State → Type 0
AllCoarse G [] s = Unit {0}
AllCoarse G (c ∷ cs) s = Coarse G c s.block × AllCoarse G cs (step c s)

-- ---- the demand

-- the byte p is in the range x
abbrev pub In : ℕ → Range → Type 0
In p x = (x.offset ≤ p) × (p < x.offset + x.size)

-- two ranges have different ids and no byte in common, and where their kinds differ no byte of the one lies on a page
-- of G bytes with a byte of the other
pub record Apart (G : ℕ) (x y : Range) : Type 0 where
  pub ids : x.id ≢ y.id
  pub bytes : (p : ℕ) → In p x → In p y → ⊥
  pub pages : x.kind ≢ y.kind → (p q : ℕ) → In p x → In q y → align_down p G ≢ align_down q G

-- the range x stands in the chunk of z: it has its id and its kind and ends where it ends, and before it is padding
abbrev pub Stands : Range → Spot → Type 0
Stands x z = Holds (first z) z.chunk x
