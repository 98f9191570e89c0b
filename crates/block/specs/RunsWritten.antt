-- Runs on the words of a sound table are those of the block that they hold, and others change nothing. Definitions. Assumes nothing.
use Rattle.std.specs.Prelude.{◌≡◌}
use Rattle.model.specs.Block.{Block}
use Rattle.model.specs.Runs.{State}
use Rattle.model.specs.Soundness.{Sound as SoundBlock}
use Rattle.words.specs.Words.{encode}
use Rattle.block.specs.Runs.{WordsState}

-- ---- runs

-- the words of a block, and the same ranges
abbrev pub written : State → WordsState
written s = record { words = encode s.block; live = s.live }

-- the block after is sound, and has the same size and slots
pub record KeptBlock (b after : Block) : Type 0 where
  pub sound : SoundBlock after
  pub size : after.size ≡ b.size
  pub slots : after.slots ≡ b.slots
