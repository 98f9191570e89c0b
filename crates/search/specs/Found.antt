-- The slot of a chunk that was looked for, 0 where there is none. Assumes nothing.
use Rattle.std.specs.Prelude.{◌≡◌, ℕ, Bool, true, ◌≢◌, List, [], refl}
use Rattle.std.proofs.Common.{arith}
use Rattle.std.proofs.Math.Option.{Option, none, some}
use Rattle.model.specs.Block.{Spot, spots}
use Rattle.model.specs.Choose.{Cut, Found}
use Rattle.model.proofs.Choose.{found, cut-of_spot}
use Rattle.model.specs.GivingBack.{find}
use Rattle.words.specs.Words.{block_of, sound}
use Rattle.words.specs.Spots.{InSlot}
use Rattle.words.proofs.Spots.{sound-spot, in_table}

abbrev pub slot_of_spot : Option Spot → ℕ
slot_of_spot none = 0
slot_of_spot (some z) = z.chunk.slot

-- where there is a chunk, it is one of the block's
abbrev pub Inside : List ℕ → Option Spot → Type 0
Inside ws none = Unit {0}
Inside ws (some z) = Cut (block_of ws).chunks z

-- What is found among the chunks of a block is one of them.
pub find-inside : (ws : List ℕ) (passes : Spot → Bool) → Inside ws (find passes (spots [] (block_of ws).chunks))
find-inside ws passes =
    inside (find passes (spots [] (block_of ws).chunks)) (found passes (spots [] (block_of ws).chunks))
  where
    inside : (o : Option Spot) → Found passes (spots [] (block_of ws).chunks) o → Inside ws o
    inside none h = tt
    inside (some z) h = cut-of_spot (block_of ws).chunks z h.0

-- Slots are numbered from 1: 0 says that there is none.
pub found_none : (ws : List ℕ) → sound ws ≡ true → (o : Option Spot) → Inside ws o → slot_of_spot o ≡ 0 → o ≡ none
found_none ws s none h e = refl
found_none ws s (some z) h e = absurd (omega (arith, in_table ws z.chunk.slot z (sound-spot ws s z h)))

-- Any other number is the slot of the chunk that was found.
pub found_some : (ws : List ℕ) → sound ws ≡ true → (o : Option Spot) → Inside ws o → slot_of_spot o ≢ 0
    → (z : Spot) × (o ≡ some z) × InSlot ws (slot_of_spot o) z
found_some ws s none h n = absurd (n refl)
found_some ws s (some z) h n = (z, refl, sound-spot ws s z h)
