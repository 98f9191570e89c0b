-- Worked examples of the first calls, by computing: literal words in, literal words and numbers out. Assumes nothing.
use Rattle.std.specs.Prelude.{ℕ, ◌+◌, ◌^◌, true, false, List, [], ◌∷◌, map, ◌≡◌, refl, replicate, set}
use Rattle.laws.specs.Every.{every}
use Rattle.laws.specs.Members.{has, distinct, same}
use Rattle.laws.specs.Reply.{accepted, refused}
use Rattle.model.specs.Block.{Chunk, Block}
use Rattle.table.specs.Layout.{is_table, at}
use Rattle.words.specs.Checks.{up_to}
use Rattle.words.specs.Words.{row_at, rows, encode, read, chunks_of, block_of, chunk_ok, all_ok, none_free, rules, sound, table, decode}
use Rattle.opening.specs.Creation.{new_on}
use Rattle.opening.specs.Questions.{allocated_on, is_empty_on}

-- ---- new

-- so many words of old content; what the examples compute with is opened here, once
old : ℕ → List ℕ
unfolding new_on up_to allocated_on is_empty_on is_table decode sound rules none_free all_ok chunk_ok block_of chunks_of read encode rows row_at every has distinct same
old n = replicate n 9

-- A table of one slot and one of two.
one_slot_lem : new_on (old 11) 4096 ≡ (accepted tt, 4096 ∷ 0 ∷ 2 ∷ 1 ∷ 1 ∷ 4096 ∷ 0 ∷ 0 ∷ 0 ∷ 0 ∷ 0 ∷ [])
unfolding old
one_slot_lem = refl

two_slots :
    new_on (old 18) 4096
    ≡ (accepted tt, 4096 ∷ 0 ∷ 2 ∷ 1 ∷ 1 ∷ 4096 ∷ 0 ∷ 0 ∷ 0 ∷ 0 ∷ 0 ∷ 0 ∷ 0 ∷ 0 ∷ 0 ∷ 0 ∷ 0 ∷ 0 ∷ [])
unfolding old
two_slots = refl

-- Other word counts, whatever the size.
ten_words_lem : new_on (old 10) 4096 ≡ (refused 1, old 10)
unfolding old
ten_words_lem = refl

no_slot : new_on (old 4) 0 ≡ (refused 1, old 4)
unfolding old
no_slot = refl

most_slots_lem : (new_on (old 3588) 4096).0 ≡ accepted tt
unfolding old
most_slots_lem = refl

too_many_slots : new_on (old 3595) 4096 ≡ (refused 1, old 3595)
unfolding old
too_many_slots = refl

-- Sizes that a block cannot have, and the largest that it can.
no_bytes : new_on (old 11) 0 ≡ (refused 13, old 11)
unfolding old
no_bytes = refl

too_many_bytes : new_on (old 11) (2 ^ 40 + 1) ≡ (refused 13, old 11)
unfolding old
too_many_bytes = refl

most_bytes : (new_on (old 11) (2 ^ 40)).0 ≡ accepted tt
unfolding old
most_bytes = refl

-- ---- a table with three chunks, written out

-- 4096 bytes in four slots, the last one empty: by rising address slot 3 is live, slot 1 is free and slot 2 is live
three : List ℕ
three =
    4096 ∷ 3196 ∷ 5 ∷ 3
    ∷ 1 ∷ 900 ∷ 100 ∷ 0 ∷ 0 ∷ 2 ∷ 3
    ∷ 3 ∷ 3096 ∷ 1000 ∷ 2 ∷ 0 ∷ 0 ∷ 1
    ∷ 4 ∷ 100 ∷ 0 ∷ 1 ∷ 7 ∷ 1 ∷ 0
    ∷ 0 ∷ 0 ∷ 0 ∷ 0 ∷ 0 ∷ 0 ∷ 0 ∷ []

abbrev chunk : ℕ → ℕ → ℕ → ℕ → ℕ → Chunk
chunk slot id size kind label = record { slot = slot; id = id; size = size; kind = kind; label = label }

three_block : Block
three_block = record {
  size = 4096;
  next = 5;
  slots = 4;
  chunks = chunk 3 4 100 1 7 ∷ chunk 1 1 900 0 0 ∷ chunk 2 3 3096 2 0 ∷ [];
}

-- The words are read as this block, and the block is written as these words.
three_read : decode three ≡ table three_block
unfolding old three three_block
three_read = refl

three_written : encode three_block ≡ three
unfolding old three three_block
three_written = refl

three_allocated : allocated_on three ≡ accepted 3196
unfolding old three
three_allocated = refl

three_not_empty : is_empty_on three ≡ accepted false
unfolding old three
three_not_empty = refl

-- Made again, at the same size, it is a fresh table.
three_again : new_on three 4096 ≡ new_on (old 32) 4096
unfolding old three
three_again = refl

-- Nothing is allocated in a new block, be it the largest or the smallest.
fresh-allocated : allocated_on (new_on (old 18) (2 ^ 40)).1 ≡ accepted 0
unfolding old
fresh-allocated = refl

fresh-empty : is_empty_on (new_on (old 18) 1).1 ≡ accepted true
unfolding old
fresh-empty = refl

-- ---- damaged tables

-- the three chunks with other words in some places
damage : List (ℕ × ℕ) → List ℕ
unfolding three
damage [] = three
damage ((i, x) ∷ l) = set (damage l) i x

-- each breaks the rule named and no other; only a next id below 2 breaks two, as no id is below it then
damaged : List (List ℕ)
unfolding damage
damaged =
    -- block size 0
    (0 ∷ 0 ∷ 2 ∷ 0 ∷ 0 ∷ 0 ∷ 0 ∷ 0 ∷ 0 ∷ 0 ∷ 0 ∷ [])
    -- block size above 2^40
    ∷ ((2 ^ 40 + 1) ∷ 0 ∷ 2 ∷ 1 ∷ 1 ∷ (2 ^ 40 + 1) ∷ 0 ∷ 0 ∷ 0 ∷ 0 ∷ 0 ∷ [])
    -- next id below 2
    ∷ (4096 ∷ 0 ∷ 1 ∷ 1 ∷ 1 ∷ 4096 ∷ 0 ∷ 0 ∷ 0 ∷ 0 ∷ 0 ∷ [])
    -- an id twice
    ∷ damage ((at 2 0, 4) ∷ [])
    -- id 0
    ∷ damage ((at 1 0, 0) ∷ [])
    -- an id not below next id
    ∷ damage ((2, 4) ∷ [])
    -- a chunk of no bytes
    ∷ damage ((1, 4096) ∷ (at 1 1, 0) ∷ (at 2 1, 3996) ∷ (at 2 2, 100) ∷ [])
    -- kind 3
    ∷ damage ((at 2 3, 3) ∷ [])
    -- a labelled free chunk
    ∷ damage ((at 1 4, 9) ∷ [])
    -- "previous" names another slot, and one before the first
    ∷ damage ((at 2 6, 3) ∷ [])
    ∷ damage ((at 3 6, 2) ∷ [])
    -- the walk comes back, and leaves the table
    ∷ damage ((at 2 5, 3) ∷ [])
    ∷ damage ((at 2 5, 5) ∷ [])
    -- a used slot is not visited
    ∷ damage ((at 4 0, 2) ∷ (at 4 1, 1) ∷ [])
    -- a chunk begins elsewhere than where the one before ends, and the first not at 0
    ∷ damage ((at 2 2, 1001) ∷ [])
    ∷ damage ((at 3 2, 1) ∷ [])
    -- the last ends elsewhere than at the block size
    ∷ damage ((0, 4097) ∷ [])
    -- two neighbours free
    ∷ damage ((1, 100) ∷ (at 2 3, 0) ∷ [])
    -- allocated is not the sum of live sizes
    ∷ damage ((1, 3197) ∷ [])
    ∷ []

-- Each is refused with 2.
damaged_allocated : map allocated_on damaged ≡ replicate 19 (refused 2)
unfolding old damaged
damaged_allocated = refl

damaged_empty : map is_empty_on damaged ≡ replicate 19 (refused 2)
unfolding old damaged
damaged_empty = refl
