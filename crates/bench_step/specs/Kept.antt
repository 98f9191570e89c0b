-- What is at hand after a line: nothing, or the words of a sound table. Assumes nothing.
use Rattle.std.specs.Prelude.{ℕ, List, ◌⊎◌, ◌≡◌, length}
use Rattle.words.specs.Soundness.{Sound}
use Rattle.opening.specs.Looked.{TableWords}

-- there is no block, or a sound table
abbrev pub AtHand : List ℕ → Type 0
AtHand ws = (length ws ≡ 0) ⊎ (TableWords ws × Sound ws)
