-- What each step makes of a block. z is the chunk that it is about, with its neighbours. Assumes nothing.
use Rattle.std.specs.Prelude.{ℕ}
use Rattle.model.specs.Block.{Chunk, Block, Spot}
use Rattle.model.specs.Effects.{replaced}
use Rattle.model.specs.GivingBack.{grown, relabel}
use Rattle.model.specs.Placing.{with_chunks}

-- the chunk with another kind and label
abbrev pub made_live : ℕ → ℕ → Chunk → Chunk
made_live kind label c = record { slot = c.slot; id = c.id; size = c.size; kind = kind; label = label }

-- the chunk gets another label
unfoldable pub relabelled : ℕ → Spot → Block → Block
relabelled label z b = with_chunks b (replaced z (relabel label z.chunk))

-- the free chunk becomes live as a whole
unfoldable pub taken_whole : ℕ → ℕ → Spot → Block → Block
taken_whole kind label z b = with_chunks b (replaced z (made_live kind label z.chunk))

-- the live chunk becomes free
unfoldable pub set_free : Spot → Block → Block
set_free z b = with_chunks b (replaced z (grown z.chunk 0))
