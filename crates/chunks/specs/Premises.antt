-- What the steps are told of the chunks that they work on. Assumes nothing.
use Rattle.std.specs.Prelude.{ℕ, false, List, ◌∷◌, ◌≢◌, ◌≡◌}
use Rattle.laws.specs.Members.{has}
use Rattle.model.specs.Block.{Chunk, Spot}
use Rattle.words.specs.Words.{block_of, slots_of}
use Rattle.words.specs.Spots.{InSlot}

-- the chunk in slot k is free
pub record FreeIn (ws : List ℕ) (k : ℕ) (z : Spot) : Type 0 where
  pub place : InSlot ws k z
  pub free : z.chunk.kind ≡ 0
  pub unnamed : z.chunk.label ≡ 0

-- the chunk in slot k is live
pub record LiveIn (ws : List ℕ) (k : ℕ) (z : Spot) : Type 0 where
  pub place : InSlot ws k z
  pub live : z.chunk.kind ≢ 0

-- no chunk is in the slot
abbrev pub NoneIn : List ℕ → ℕ → Type 0
NoneIn ws k = has k (slots_of (block_of ws).chunks) ≡ false

-- two free chunks, c in slot k and d after it
pub record TwoFree (ws : List ℕ) (k : ℕ) (left : List Chunk) (c d : Chunk) (right : List Chunk) : Type 0 where
  pub place : InSlot ws k (record { left = left; chunk = c; right = d ∷ right })
  pub free : c.kind ≡ 0
  pub unnamed : c.label ≡ 0
  pub next_free : d.kind ≡ 0
