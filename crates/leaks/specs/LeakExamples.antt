-- Worked examples of the walk, by computing: literal words in, literal answers out. Assumes nothing.
use Rattle.std.specs.Prelude.{ℕ, ◌-◌, ◌^◌, List, [], ◌∷◌, map, ◌≡◌, refl, replicate, set, Option, None, Some, Ok}
use Rattle.laws.specs.Every.{every}
use Rattle.laws.specs.Members.{has, distinct, same}
use Rattle.laws.specs.Reply.{Reply, accepted, refused}
use Rattle.table.specs.Layout.{is_table}
use Rattle.words.specs.Words.{row_at, rows, encode, read, chunks_of, block_of, chunk_ok, all_ok, none_free, rules, sound, decode}
use Rattle.leaks.specs.Leaks.{Live, reply_leak, live_from, leak_on, step_on}
use Rattle.leaks.specs.Lives.{lives}
use Rattle.leaks.specs.Walked.{walk_on}

-- a chunk that is handed out; what the examples compute with is opened here, once
live : ℕ → ℕ → ℕ → ℕ → ℕ → Reply (Option Live)
unfolding lives step_on leak_on live_from is_table decode sound rules none_free all_ok chunk_ok block_of chunks_of read encode rows row_at every has distinct same
live id first size kind label = accepted (Some record { id = id; first_byte = first; size = size; kind = kind; label = label })

abbrev end : Reply (Option Live)
end = accepted None

-- The code's answer is read field by field.
live_told : reply_leak (Ok (Some record { id = 3; first_byte = 1000; size = 3096; kind = 2; label = 9 })) ≡ live 3 1000 3096 2 9
unfolding live
live_told = refl

-- ---- a table with three chunks

-- 4096 bytes in four slots, the last one empty: by rising address slot 3 is live, slot 1 is free and slot 2 is live, 3072
-- bytes from 1024 on with 24 bytes of padding before them
three : List ℕ
three =
    4096 ∷ 3196 ∷ 5 ∷ 3
    ∷ 1 ∷ 900 ∷ 100 ∷ 0 ∷ 0 ∷ 2 ∷ 3
    ∷ 3 ∷ 3096 ∷ 1000 ∷ 2 ∷ 9 ∷ 0 ∷ 1
    ∷ 4 ∷ 100 ∷ 0 ∷ 1 ∷ 7 ∷ 1 ∷ 0
    ∷ 0 ∷ 0 ∷ 0 ∷ 0 ∷ 0 ∷ 0 ∷ 0 ∷ []

-- From 0: the first chunk, and the place moves to its end.
three_0 : step_on three 0 ≡ (live 4 0 100 1 7, 100)
unfolding live three
three_0 = refl

-- From inside it, from its end, from inside the free chunk and from its own first byte: the other live one.
three_later : map (step_on three) (1 ∷ 100 ∷ 500 ∷ 1000 ∷ []) ≡ replicate 4 (live 3 1000 3096 2 9, 4096)
unfolding live three
three_later = refl

-- From one byte above that, from the block's end and from beyond: the end, and the place stays.
three_end :
    map (step_on three) (1001 ∷ 4096 ∷ 9999 ∷ (2 ^ 64 - 1) ∷ [])
    ≡ (end, 1001) ∷ (end, 4096) ∷ (end, 9999) ∷ (end, 2 ^ 64 - 1) ∷ []
unfolding live three
three_end = refl

-- The whole walk, the live chunks, and a walk from the middle.
three_walk : walk_on three 0 4 ≡ live 4 0 100 1 7 ∷ live 3 1000 3096 2 9 ∷ end ∷ end ∷ []
unfolding live three
three_walk = refl

three_lives : map (λ (l : Live). accepted (Some l)) (lives three) ≡ live 4 0 100 1 7 ∷ live 3 1000 3096 2 9 ∷ []
unfolding live three
three_lives = refl

three_middle : walk_on three 100 2 ≡ live 3 1000 3096 2 9 ∷ end ∷ []
unfolding live three
three_middle = refl

-- ---- other tables

-- Live neighbours: each is handed out, also where it begins at the end of the one before.
neighbours :
    walk_on
    (4096 ∷ 4096 ∷ 4 ∷ 1
    ∷ 1 ∷ 1 ∷ 0 ∷ 1 ∷ 5 ∷ 2 ∷ 0
    ∷ 2 ∷ 1 ∷ 1 ∷ 2 ∷ 6 ∷ 3 ∷ 1
    ∷ 3 ∷ 4094 ∷ 2 ∷ 1 ∷ 7 ∷ 0 ∷ 2
    ∷ [])
    0 4
    ≡ live 1 0 1 1 5 ∷ live 2 1 1 2 6 ∷ live 3 2 4094 1 7 ∷ end ∷ []
unfolding live
neighbours = refl

-- One live chunk, the whole of the largest block.
one : walk_on (2 ^ 40 ∷ 2 ^ 40 ∷ 2 ∷ 1 ∷ 1 ∷ 2 ^ 40 ∷ 0 ∷ 2 ∷ 5 ∷ 0 ∷ 0 ∷ []) 0 2 ≡ live 1 0 (2 ^ 40) 2 5 ∷ end ∷ []
unfolding live
one = refl

-- An empty block.
empty : step_on (4096 ∷ 0 ∷ 2 ∷ 1 ∷ 1 ∷ 4096 ∷ 0 ∷ 0 ∷ 0 ∷ 0 ∷ 0 ∷ []) 0 ≡ (end, 0)
unfolding live
empty = refl

-- ---- refusals, which keep the place

-- Words that are no table's.
no_table : map (step_on (replicate 10 9)) (0 ∷ 100 ∷ []) ≡ (refused 1, 0) ∷ (refused 1, 100) ∷ []
unfolding live
no_table = refl

-- Those of a table that is not sound: its total is not the sum of the live sizes.
not_sound : map (step_on (set three 1 3197)) (0 ∷ 100 ∷ []) ≡ (refused 2, 0) ∷ (refused 2, 100) ∷ []
unfolding live three
not_sound = refl
