-- What is known of sound words. Assumes nothing.
use Rattle.std.specs.Prelude.{ℕ, ◌≤◌, List, ◌≡◌}
use Rattle.model.specs.Block.{allocated}
use Rattle.model.specs.Soundness.{Sound}
use Rattle.table.specs.Layout.{slot_count, allocated_word, first_slot, row}
use Rattle.words.specs.Words.{row_at, encode, chunks_of, block_of}
use Rattle.words.specs.Linked.{Linked}

-- what is known of sound words
pub record Known (ws : List ℕ) : Type 0 where
  -- the block that is read is written as these words
  pub words : encode (block_of ws) ≡ ws
  -- it is sound
  pub block : Sound (block_of ws)
  -- the second word is its sum of the live sizes
  pub allocated : allocated_word ws ≡ allocated (chunks_of ws)
  -- each slot is as the chunks say, and they are linked
  pub rows : (k : ℕ) → 1 ≤ k → k ≤ slot_count ws → row ws k ≡ row_at 0 0 (chunks_of ws) k
  pub links : Linked ws 0 (first_slot ws) 0 (chunks_of ws)
