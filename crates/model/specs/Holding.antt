-- The ranges handed out and not given back are those of the live chunks, and every call keeps it so. Definitions. Assumes nothing.
use Rattle.std.specs.Prelude.{ℕ, ◌↔◌, ◌≡◌}
use mathlib.Core.List.{List, Memᴰ}
use Rattle.laws.specs.Lists.{Pairwise}
use Rattle.model.specs.Ranges.{DifferentNames}
use Rattle.model.specs.Runs.{Range, State}
use Rattle.model.specs.Soundness.{Sound}
use Rattle.model.specs.Track.{Track, Before}

-- what holds after every call: the ranges of the live chunks, by rising address, keep the page rule, and the ranges
-- that were handed out and not given back are these and no others
pub record Holding (G bytes : ℕ) (s : State) : Type 0 where
  pub sound : Sound s.block
  pub size : s.block.size ≡ bytes
  pub ranges : List Range
  pub track : Track 0 s.block.chunks ranges
  pub ordered : Pairwise (Before G) ranges
  pub known : (x : Range) → Memᴰ x s.live ↔ Memᴰ x ranges
  pub distinct : Pairwise DifferentNames s.live
