-- What the check of a table tests on its way, and in which order. Assumes nothing.
use Rattle.std.specs.Prelude.{ℕ, zero, suc, ◌+◌, ◌-◌, Bool, true, false, not, cond, List, [], ◌∷◌, eqb, leb, length}
use Rattle.laws.specs.Every.{every}
use Rattle.laws.specs.Members.{has}
use Rattle.model.specs.Block.{Chunk, total, allocated, largest_block}
use Rattle.table.specs.Layout.{slot_count, block_size, allocated_word, next_id, first_slot, id_at, size_at, first_byte_at, kind_at, label_at, next_at, previous_at}
use Rattle.words.specs.Words.{chunks_of}

-- ---- one step of the walk, at slot k

-- it begins at the address, and "previous" names the slot before
unfoldable pub links_ok : List ℕ → ℕ → ℕ → ℕ → Bool
links_ok ws prev first k = every (eqb (first_byte_at ws k) first ∷ eqb (previous_at ws k) prev ∷ [])

-- x is from 1 to top
unfoldable pub up_to : ℕ → ℕ → Bool
up_to top x = every (leb 1 x ∷ leb x top ∷ [])

-- the kind is known, and a free chunk is labelled 0 and comes after a live one; before is the kind of the chunk before
unfoldable pub kind_ok : List ℕ → ℕ → ℕ → Bool
kind_ok ws before k =
    every
    (leb (kind_at ws k) 2
    ∷ cond (eqb (kind_at ws k) 0) (not (eqb before 0)) true
    ∷ cond (eqb (kind_at ws k) 0) (eqb (label_at ws k) 0) true
    ∷ [])

-- seen are the ids of the chunks before
unfoldable pub step_ok : List ℕ → ℕ → ℕ → ℕ → List ℕ → ℕ → Bool
step_ok ws prev first before seen k =
    every
    (leb k (slot_count ws)
    ∷ links_ok ws prev first k
    ∷ up_to (next_id ws - 1) (id_at ws k)
    ∷ not (has (id_at ws k) seen)
    ∷ leb 1 (size_at ws k)
    ∷ kind_ok ws before k
    ∷ [])

-- ---- the walk: the chunks are those that are read from slot k on

unfoldable pub walk_ok : List ℕ → ℕ → ℕ → ℕ → List ℕ → ℕ → List Chunk → Bool
walk_ok ws prev first before seen k [] = eqb k 0
walk_ok ws prev first before seen k (c ∷ cs) =
    every
    (step_ok ws prev first before seen k
    ∷ walk_ok ws k (first + size_at ws k) (kind_at ws k) (id_at ws k ∷ seen) (next_at ws k) cs
    ∷ [])

-- each step, the end at the block size, and the sum of the live sizes; nothing is before the first chunk, and it counts as live
unfoldable pub walked : List ℕ → Bool
walked ws =
    every
    (walk_ok ws 0 0 1 [] (first_slot ws) (chunks_of ws)
    ∷ eqb (total (chunks_of ws)) (block_size ws)
    ∷ eqb (allocated (chunks_of ws)) (allocated_word ws)
    ∷ [])

-- how many chunks were walked, 0 where a rule is broken
unfoldable pub chunks_walked : List ℕ → ℕ
chunks_walked ws = cond (walked ws) (length (chunks_of ws)) 0

-- ---- the other slots

-- the six words after the id are 0
unfoldable pub others_zero : List ℕ → ℕ → Bool
others_zero ws k =
    every
    (eqb (size_at ws k) 0
    ∷ eqb (first_byte_at ws k) 0
    ∷ eqb (kind_at ws k) 0
    ∷ eqb (label_at ws k) 0
    ∷ eqb (next_at ws k) 0
    ∷ eqb (previous_at ws k) 0
    ∷ [])

-- so many empty slots are found from slot k downwards, and on the way no slot with id 0 has another word
unfoldable pub empty_below : List ℕ → ℕ → ℕ → Bool
empty_below ws k zero = true
empty_below ws zero (suc e) = false
empty_below ws (suc k) (suc e) =
    cond (eqb (id_at ws (suc k)) 0) (every (others_zero ws (suc k) ∷ empty_below ws k e ∷ [])) (empty_below ws k (suc e))

-- ---- the whole check

unfoldable pub checked : List ℕ → Bool
checked ws =
    every
    (leb 1 (block_size ws)
    ∷ leb (block_size ws) largest_block
    ∷ leb 2 (next_id ws)
    ∷ walked ws
    ∷ empty_below ws (slot_count ws) (slot_count ws - length (chunks_of ws))
    ∷ [])

-- block size 1 to 2^40, next id at least 2
unfoldable pub head_ok : List ℕ → Bool
head_ok ws = every (leb 1 (block_size ws) ∷ leb (block_size ws) largest_block ∷ leb 2 (next_id ws) ∷ [])
