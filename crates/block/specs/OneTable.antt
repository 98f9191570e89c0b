-- What the slots of a sound table tell is every word of it. Definitions. Assumes nothing.
use Rattle.std.specs.Prelude.{ℕ, ◌≡◌}
use mathlib.Core.List.{List}
use Rattle.table.specs.Layout.{slot_count, block_size}
use Rattle.words.specs.Soundness.{Sound}
use Rattle.opening.specs.Looked.{TableWords}

-- ---- what is said of a call's outcome leaves nothing open

-- vs is a sound table of as many slots as ws has, and says the same block size
pub record Like (ws vs : List ℕ) : Type 0 where
  pub table : TableWords vs
  pub sound : Sound vs
  pub slots : slot_count vs ≡ slot_count ws
  pub size : block_size vs ≡ block_size ws
