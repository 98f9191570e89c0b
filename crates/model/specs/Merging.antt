-- Giving back joins a chunk with the free neighbours on both sides of it. Definitions. Assumes nothing.
use Rattle.std.specs.Prelude.{ℕ, ◌+◌, ◌≤◌, ◌≢◌, ◌≡◌}
use mathlib.Core.List.{List, ◌∷◌, reverse_aux}
use Rattle.laws.specs.Lists.{Head}
use Rattle.model.specs.Block.{Chunk, Block, Spot, first}
use Rattle.model.specs.Choose.{Cut}
use Rattle.model.specs.Effects.{LiveIn}
use Rattle.model.specs.GivingBack.{grown, freed}

-- ---- the chunks after a free, in each of four cases

-- the nearest of the chunks on one side is live, if there is one
abbrev pub NearestLive : List Chunk → Type 0
NearestLive cs = Head (λ c. c.kind ≢ 0) cs

-- a free chunk of so many bytes, under the id and in the slot of c
abbrev pub free_as : Chunk → ℕ → Chunk
free_as c n = record { slot = c.slot; id = c.id; size = n; kind = 0; label = 0 }

-- ---- every byte of the chunk that is given back lies in one free chunk

-- a free chunk of cs has the bytes from s to e
pub record FreeOver (cs : List Chunk) (s e : ℕ) : Type 0 where
  pub spot : Spot
  pub cut : Cut cs spot
  pub free : spot.chunk.kind ≡ 0
  pub from : first spot ≤ s
  pub to : e ≤ first spot + spot.chunk.size

-- the live chunk with the id is given back: the chunks after it are those of the equations above, and every byte of it
-- lies in one free chunk
pub record Frees (id : ℕ) (b after : Block) : Type 0 where
  pub spot : Spot
  pub live : LiveIn id b spot
  pub chunks : after.chunks ≡ freed spot
  pub bytes : FreeOver after.chunks (first spot) (first spot + spot.chunk.size)

-- ---- what stays where a free chunk takes in the free one after it stays where a chunk is given back

-- Q stays where p takes in c
abbrev pub TakesIn : (List Chunk → Type 0) → Type 0
TakesIn Q = (left : List Chunk) (p c : Chunk) (right : List Chunk) → p.kind ≡ 0 → c.kind ≡ 0
    → Q (reverse_aux left (p ∷ c ∷ right)) → Q (reverse_aux left (grown p c.size ∷ right))
