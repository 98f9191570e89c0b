-- A block: its chunks by rising address, and a chunk with its neighbours. Assumes nothing.
use Rattle.std.specs.Prelude.{ℕ, ◌+◌, ◌-◌, ◌^◌, Bool, cond, List, [], ◌∷◌, eqb}

-- the bytes of the largest block
abbrev pub largest_block : ℕ
largest_block = 2 ^ 40

-- the next id where none is left: ids are 64-bit words, and this one is handed out no more
abbrev pub no_id : ℕ
no_id = 2 ^ 64 - 1

-- slot: the number, from 1, of the chunk's place in the table; kind: 0 free, 1 linear, 2 non-linear; label: 0 unnamed
pub record Chunk : Type 0 where
  pub slot : ℕ
  pub id : ℕ
  pub size : ℕ
  pub kind : ℕ
  pub label : ℕ

-- size: the block's bytes; next: the id of the next new chunk; slots: how many the table has; chunks: by rising address,
-- each beginning where the one before ends, the first at 0
pub record Block : Type 0 where
  pub size : ℕ
  pub next : ℕ
  pub slots : ℕ
  pub chunks : List Chunk

-- a chunk with the chunks before it and those after it, the nearest first
pub record Spot : Type 0 where
  pub left : List Chunk
  pub chunk : Chunk
  pub right : List Chunk

abbrev pub sum_of : (Chunk → ℕ) → List Chunk → ℕ
sum_of f [] = 0
sum_of f (c ∷ cs) = f c + sum_of f cs

-- the bytes of all chunks
abbrev pub total : List Chunk → ℕ
total cs = sum_of (λ c. c.size) cs

abbrev pub is_free : Chunk → Bool
is_free c = eqb c.kind 0

abbrev pub live_size : Chunk → ℕ
live_size c = cond (is_free c) 0 c.size

-- the bytes of the live chunks, padding included
abbrev pub allocated : List Chunk → ℕ
allocated cs = sum_of live_size cs

-- a chunk begins where those before it end
abbrev pub first : Spot → ℕ
first z = total z.left

-- every chunk with its neighbours, by rising address, after those of left
abbrev pub spots : List Chunk → List Chunk → List Spot
spots left [] = []
spots left (c ∷ cs) = record { left = left; chunk = c; right = cs } ∷ spots (c ∷ left) cs

-- a fresh table holds next id 2 and one free chunk, id 1, in slot 1
abbrev pub fresh : ℕ → ℕ → Block
fresh size slots = record {
  size = size;
  next = 2;
  slots = slots;
  chunks = record { slot = 1; id = 1; size = size; kind = 0; label = 0 } ∷ [];
}
