-- What an accepted rename does: one chunk's label is new, and all else is as it was. Definitions. Assumes nothing.
use Rattle.std.specs.Prelude.{ℕ, ◌≡◌}
use mathlib.Core.List.{◌∷◌, reverse_aux}
use Rattle.model.specs.Block.{Block, Spot}
use Rattle.model.specs.Effects.{LiveIn}

-- the block after has the chunks of b, but for the label of the one that is live under the id
pub record Relabelled (id label : ℕ) (b after : Block) : Type 0 where
  pub spot : Spot
  pub found : LiveIn id b spot
  pub block : after
      ≡ record {
        size = b.size;
        next = b.next;
        slots = b.slots;
        chunks = reverse_aux spot.left (record {
          slot = spot.chunk.slot;
          id = spot.chunk.id;
          size = spot.chunk.size;
          kind = spot.chunk.kind;
          label = label;
        } ∷ spot.right);
      }
