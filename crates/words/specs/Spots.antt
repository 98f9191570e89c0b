-- A chunk of the words of a table in its slot, and what is read there. Assumes nothing.
use Rattle.std.specs.Prelude.{ℕ, ◌≡◌}
use mathlib.Core.List.{List}
use Rattle.model.specs.Block.{Spot, first}
use Rattle.model.specs.Choose.{Cut}
use Rattle.table.specs.Layout.{id_at, size_at, first_byte_at, kind_at, label_at, next_at, previous_at}
use Rattle.words.specs.Words.{slot_of, encode, block_of}
use Rattle.words.specs.Laid.{Laid}

-- the words are those of the block that is read from them, its chunks laid in slots of their own, and z is its chunk in slot k
pub record InSlot (ws : List ℕ) (k : ℕ) (z : Spot) : Type 0 where
  pub words : encode (block_of ws) ≡ ws
  pub laid : Laid (block_of ws)
  pub cut : Cut (block_of ws).chunks z
  pub slot : z.chunk.slot ≡ k

-- what is read in slot k: the chunk of z, where it begins, and the slots of its neighbours
pub record ReadAs (ws : List ℕ) (k : ℕ) (z : Spot) : Type 0 where
  pub id : id_at ws k ≡ z.chunk.id
  pub size : size_at ws k ≡ z.chunk.size
  pub begins : first_byte_at ws k ≡ first z
  pub kind : kind_at ws k ≡ z.chunk.kind
  pub label : label_at ws k ≡ z.chunk.label
  pub next : next_at ws k ≡ slot_of z.right
  pub previous : previous_at ws k ≡ slot_of z.left
