-- Demand 3, its second half, on words: after any calls the live ranges are apart, and are the live slots'. Definitions. Assumes nothing.
use Rattle.std.specs.Prelude.{ℕ, ◌+◌, ◌/◌, ◌≤◌, ◌<◌, ◌≢◌, ◌≡◌}
use mathlib.Core.List.{List, [], ◌∷◌, Memᴰ}
use Rattle.laws.specs.Reply.{accepted}
use Rattle.model.specs.Runs.{Call, Range}
use Rattle.model.specs.Runs.Call.{allocate, free, rename_to}
use Rattle.table.specs.Layout.{id_at, size_at, first_byte_at, kind_at}
use Rattle.words.specs.Soundness.{Used}
use Rattle.sub_allocator.specs.Answers.{Given}
use Rattle.placing.specs.Placing.{allocate_on}
use Rattle.block.specs.Runs.{WordsState, step_on}

-- ---- the granularities of a run

-- an allocation that is accepted names a granularity of at least G
abbrev pub CoarseOn : ℕ → Call → List ℕ → Type 0
CoarseOn G (allocate r) ws = (g : Given) → (allocate_on ws r).0 ≡ accepted g → G ≤ r.granularity
CoarseOn G (free id) ws = Unit {0}
CoarseOn G (rename_to id label) ws = Unit {0}

-- so does every one along a run
abbrev pub AllCoarseOn : ℕ → List Call → WordsState → Type 0
AllCoarseOn G [] s = Unit {0}
AllCoarseOn G (c ∷ cs) s = CoarseOn G c s.words × AllCoarseOn G cs (step_on c s)

-- ---- slots and ranges

-- slot k is used and live, and the range stands in it: it has its id and its kind and ends where it ends, and before it
-- is padding
pub record StandsIn (ws : List ℕ) (k : ℕ) (x : Range) : Type 0 where
  pub used : Used ws k
  pub live : kind_at ws k ≢ 0
  pub id : x.id ≡ id_at ws k
  pub kind : x.kind ≡ kind_at ws k
  pub from : first_byte_at ws k ≤ x.offset
  pub to : x.offset + x.size ≡ first_byte_at ws k + size_at ws k
  pub some : 1 ≤ x.size

-- the ranges are those of the live slots: each stands in one, and in each stands one
pub record LiveSlots (s : WordsState) : Type 0 where
  pub slot : (x : Range) → Memᴰ x s.live → (k : ℕ) × StandsIn s.words k x
  pub range : (k : ℕ) → Used s.words k → kind_at s.words k ≢ 0
      → (x : Range) × Memᴰ x s.live × StandsIn s.words k x

-- the ids of two ranges differ; byte p of the one is not byte q of the other; and where the kinds differ these bytes lie
-- on different pages of G bytes
abbrev pub BytesApart : ℕ → Range → Range → Type 0
BytesApart G x y =
    (x.id ≢ y.id) × ((p q : ℕ) → p < x.size → q < y.size
    → (x.offset + p ≢ y.offset + q) × (x.kind ≢ y.kind → (x.offset + p) / G ≢ (y.offset + q) / G))
