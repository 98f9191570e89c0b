-- A block as words: how it is written, and how words are read. Assumes nothing.
use Rattle.std.specs.Prelude.{ℕ, zero, suc, ◌+◌, Bool, true, false, not, cond, List, [], ◌∷◌, ◌++◌, map, eqb, leb, ltb}
use Rattle.laws.specs.Every.{every}
use Rattle.laws.specs.Members.{distinct, same}
use Rattle.model.specs.Block.{Chunk, Block, total, allocated, is_free, largest_block}
use Rattle.table.specs.Layout.{slot_count, is_table, block_size, next_id, first_slot, id_at, size_at, kind_at, label_at, next_at, empty_row}

-- ---- writing

-- the slot number of the first chunk, 0 where there is none
abbrev pub slot_of : List Chunk → ℕ
slot_of [] = 0
slot_of (c ∷ cs) = c.slot

-- the words of a chunk that begins at `first`, between two slots
abbrev pub row_of : ℕ → ℕ → ℕ → Chunk → List ℕ
row_of prev first next c = c.id ∷ c.size ∷ first ∷ c.kind ∷ c.label ∷ next ∷ prev ∷ []

-- the words of slot k, where the chunks from the address `first` on are those of the list, and `prev` is the slot before them
unfoldable pub row_at : ℕ → ℕ → List Chunk → ℕ → List ℕ
row_at prev first [] k = empty_row
row_at prev first (c ∷ cs) k = cond (eqb c.slot k) (row_of prev first (slot_of cs) c) (row_at c.slot (first + c.size) cs k)

-- the words of so many slots from k on
unfoldable pub rows : List Chunk → ℕ → ℕ → List ℕ
rows cs zero k = []
rows cs (suc n) k = row_at 0 0 cs k ++ rows cs n (suc k)

unfoldable pub encode : Block → List ℕ
encode b = b.size ∷ allocated b.chunks ∷ b.next ∷ slot_of b.chunks ∷ rows b.chunks b.slots 1

-- ---- reading

abbrev pub chunk_at : List ℕ → ℕ → Chunk
chunk_at ws k = record { slot = k; id = id_at ws k; size = size_at ws k; kind = kind_at ws k; label = label_at ws k }

-- the chunks along "next" from slot k, at most so many
unfoldable pub read : ℕ → List ℕ → ℕ → List Chunk
read zero ws k = []
read (suc n) ws zero = []
read (suc n) ws (suc k) = chunk_at ws (suc k) ∷ read n ws (next_at ws (suc k))

-- no slot comes twice in a sound table, so the walk along "next" takes at most as many steps as there are slots
unfoldable pub chunks_of : List ℕ → List Chunk
chunks_of ws = read (slot_count ws) ws (first_slot ws)

unfoldable pub block_of : List ℕ → Block
block_of ws = record { size = block_size ws; next = next_id ws; slots = slot_count ws; chunks = chunks_of ws }

-- ---- the rules of a block, as tests

abbrev pub ids : List Chunk → List ℕ
ids cs = map (λ (c : Chunk). c.id) cs

abbrev pub slots_of : List Chunk → List ℕ
slots_of cs = map (λ (c : Chunk). c.slot) cs

-- id at least 1 and below next id, size at least 1, kind 0 to 2, labelled 0 where free, in a slot of the table
unfoldable pub chunk_ok : ℕ → ℕ → Chunk → Bool
chunk_ok slots next c =
    every
    (leb 1 c.id
    ∷ ltb c.id next
    ∷ leb 1 c.size
    ∷ leb c.kind 2
    ∷ cond (is_free c) (eqb c.label 0) true
    ∷ leb 1 c.slot
    ∷ leb c.slot slots
    ∷ [])

unfoldable pub all_ok : ℕ → ℕ → List Chunk → Bool
all_ok slots next [] = true
all_ok slots next (c ∷ cs) = every (chunk_ok slots next c ∷ all_ok slots next cs ∷ [])

-- no two neighbours are free; the first argument says whether the chunk before is
unfoldable pub none_free : Bool → List Chunk → Bool
none_free before [] = true
none_free before (c ∷ cs) = every (cond before (not (is_free c)) true ∷ none_free (is_free c) cs ∷ [])

unfoldable pub rules : Block → Bool
rules b =
    every
    (leb 1 b.slots
    ∷ leb b.slots 512
    ∷ leb 1 b.size
    ∷ leb b.size largest_block
    ∷ leb 2 b.next
    ∷ distinct (ids b.chunks)
    ∷ all_ok b.slots b.next b.chunks
    ∷ distinct (slots_of b.chunks)
    ∷ eqb (total b.chunks) b.size
    ∷ none_free false b.chunks
    ∷ [])

-- ---- what words are

pub data Read : Type 0 where
  not_a_table : Read
  unsound : Read
  table : Block → Read

-- the block that is read keeps the rules, and it is written as these words
unfoldable pub sound : List ℕ → Bool
sound ws = every (rules (block_of ws) ∷ same (encode (block_of ws)) ws ∷ [])

abbrev pub read_as : Bool → Bool → Block → Read
read_as false ok b = not_a_table
read_as true false b = unsound
read_as true true b = table b

unfoldable pub decode : List ℕ → Read
decode ws = read_as (is_table ws) (sound ws) (block_of ws)
