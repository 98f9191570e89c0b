-- The ranges that live chunks hold, by rising address, and the page rule between them. Definitions. Assumes nothing.
use Rattle.std.specs.Prelude.{ℕ, ◌+◌, ◌-◌, ◌≤◌, ◌<◌, ◌≢◌, ◌≡◌}
use mathlib.Core.List.{List, [], ◌∷◌, reverse_aux}
use Rattle.laws.specs.Rounding.{align_down}
use Rattle.model.specs.Block.{Chunk, total}
use Rattle.model.specs.Runs.{Range}

-- the range was handed out of the live chunk that begins at s: it ends where the chunk ends, and before it is padding
pub record Holds (s : ℕ) (c : Chunk) (x : Range) : Type 0 where
  pub id : x.id ≡ c.id
  pub kind : x.kind ≡ c.kind
  pub from : s ≤ x.offset
  pub to : x.offset + x.size ≡ c.size + s
  pub some : 1 ≤ x.size

-- the ranges of the live ones among chunks that begin at s, both by rising address
pub data Track : ℕ → List Chunk → List Range → Type 0 where
  end : {s : ℕ} → Track s [] []
  skip : {s : ℕ} {c : Chunk} {cs : List Chunk} {xs : List Range}
      → c.kind ≡ 0 → Track (c.size + s) cs xs → Track s (c ∷ cs) xs
  hold : {s : ℕ} {c : Chunk} {cs : List Chunk} {x : Range} {xs : List Range}
      → c.kind ≢ 0 → Holds s c x → Track (c.size + s) cs xs → Track s (c ∷ cs) (x ∷ xs)

-- the same of chunks that begin at 0, both with the nearest first
pub data TrackBack : List Chunk → List Range → Type 0 where
  start : TrackBack [] []
  skipped : {c : Chunk} {cs : List Chunk} {xs : List Range} → c.kind ≡ 0 → TrackBack cs xs → TrackBack (c ∷ cs) xs
  held : {c : Chunk} {cs : List Chunk} {x : Range} {xs : List Range}
      → c.kind ≢ 0 → Holds (total cs) c x → TrackBack cs xs → TrackBack (c ∷ cs) (x ∷ xs)

-- ---- cut in two, and joined

-- the ranges of the chunks on both sides of a cut
pub record Parts (l r : List Chunk) (zs : List Range) : Type 0 where
  pub xs : List Range
  pub ys : List Range
  pub whole : zs ≡ reverse_aux xs ys
  pub left : TrackBack l xs
  pub right : Track (total l) r ys

-- the first of the ranges is that of a chunk, and the others are those of the chunks after it
pub record Held (s : ℕ) (c : Chunk) (r : List Chunk) (ys : List Range) : Type 0 where
  pub range : Range
  pub rest : List Range
  pub whole : ys ≡ range ∷ rest
  pub holds : Holds s c range
  pub track : Track (c.size + s) r rest

-- ---- the page rule

-- x lies before y, and where their kinds differ x ends on an earlier page of G bytes than y begins on
abbrev pub Before : ℕ → Range → Range → Type 0
Before G x y =
    (x.offset + x.size ≤ y.offset)
    × (x.kind ≢ y.kind → align_down (x.offset + x.size - 1) G < align_down y.offset G)
