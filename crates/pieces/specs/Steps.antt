-- What cutting a chunk in two and joining two make of a block. Assumes nothing.
use Rattle.std.specs.Prelude.{ℕ, suc}
use mathlib.Core.List.{List, ◌∷◌, reverse_aux}
use Rattle.model.specs.Block.{Chunk, Block, Spot}
use Rattle.model.specs.GivingBack.{grown}
use Rattle.model.specs.Placing.{with_chunks, remainder_of}

-- the first n bytes of the free chunk become a live chunk, in the slot and under the next id; the remainder keeps the old id
unfoldable pub split_in_two : ℕ → ℕ → ℕ → ℕ → Spot → Block → Block
split_in_two slot n kind label z b = record {
  size = b.size;
  next = suc b.next;
  slots = b.slots;
  chunks =
      reverse_aux z.left
      (record { slot = slot; id = b.next; size = n; kind = kind; label = label } ∷ remainder_of z.chunk n ∷ z.right);
}

-- the free chunk takes in the chunk after it, which is free too
unfoldable pub joined : List Chunk → Chunk → Chunk → List Chunk → Block → Block
joined left c d right b = with_chunks b (reverse_aux left (grown c d.size ∷ right))
