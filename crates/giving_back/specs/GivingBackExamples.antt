-- Worked examples of giving back and renaming, by computing: literal words in, literal words out. Assumes nothing.
use Rattle.std.specs.Prelude.{ℕ, [], ◌∷◌, map, ◌≡◌, refl, replicate}
use Rattle.laws.specs.Reply.{accepted, refused}
use Rattle.opening.specs.FiveChunks.{five, six, broken}
use Rattle.giving_back.specs.GivingBack.{free_on, rename_on}

-- ---- giving back

-- Both neighbours are free: the one on the left takes both in, and two slots are zeroed.
merge_both :
    free_on six 5
    ≡ (
      accepted tt,
      4096 ∷ 196 ∷ 7 ∷ 3
          ∷ 1 ∷ 3900 ∷ 100 ∷ 0 ∷ 0 ∷ 5 ∷ 3
          ∷ 0 ∷ 0 ∷ 0 ∷ 0 ∷ 0 ∷ 0 ∷ 0
          ∷ 4 ∷ 100 ∷ 0 ∷ 1 ∷ 7 ∷ 1 ∷ 0
          ∷ 0 ∷ 0 ∷ 0 ∷ 0 ∷ 0 ∷ 0 ∷ 0
          ∷ 6 ∷ 96 ∷ 4000 ∷ 1 ∷ 0 ∷ 0 ∷ 1
          ∷ 0 ∷ 0 ∷ 0 ∷ 0 ∷ 0 ∷ 0 ∷ 0
          ∷ [],
    )
unfolding free_on six
merge_both = refl

-- The first chunk takes in the one after it.
merge_next :
    free_on six 4
    ≡ (
      accepted tt,
      4096 ∷ 596 ∷ 7 ∷ 3
          ∷ 0 ∷ 0 ∷ 0 ∷ 0 ∷ 0 ∷ 0 ∷ 0
          ∷ 3 ∷ 2500 ∷ 1500 ∷ 0 ∷ 0 ∷ 5 ∷ 4
          ∷ 4 ∷ 1000 ∷ 0 ∷ 0 ∷ 0 ∷ 4 ∷ 0
          ∷ 5 ∷ 500 ∷ 1000 ∷ 2 ∷ 9 ∷ 2 ∷ 3
          ∷ 6 ∷ 96 ∷ 4000 ∷ 1 ∷ 0 ∷ 0 ∷ 2
          ∷ 0 ∷ 0 ∷ 0 ∷ 0 ∷ 0 ∷ 0 ∷ 0
          ∷ [],
    )
unfolding free_on six
merge_next = refl

-- The last chunk is taken in by the one before it.
merge_previous :
    free_on six 6
    ≡ (
      accepted tt,
      4096 ∷ 600 ∷ 7 ∷ 3
          ∷ 1 ∷ 900 ∷ 100 ∷ 0 ∷ 0 ∷ 4 ∷ 3
          ∷ 3 ∷ 2596 ∷ 1500 ∷ 0 ∷ 0 ∷ 0 ∷ 4
          ∷ 4 ∷ 100 ∷ 0 ∷ 1 ∷ 7 ∷ 1 ∷ 0
          ∷ 5 ∷ 500 ∷ 1000 ∷ 2 ∷ 9 ∷ 2 ∷ 1
          ∷ 0 ∷ 0 ∷ 0 ∷ 0 ∷ 0 ∷ 0 ∷ 0
          ∷ 0 ∷ 0 ∷ 0 ∷ 0 ∷ 0 ∷ 0 ∷ 0
          ∷ [],
    )
unfolding free_on six
merge_previous = refl

-- Between live neighbours only the chunk's kind and label and the bytes allocated change.
no_merge :
    free_on
    (4096 ∷ 4096 ∷ 4 ∷ 1
    ∷ 1 ∷ 96 ∷ 0 ∷ 1 ∷ 5 ∷ 2 ∷ 0
    ∷ 2 ∷ 2000 ∷ 96 ∷ 2 ∷ 6 ∷ 3 ∷ 1
    ∷ 3 ∷ 2000 ∷ 2096 ∷ 1 ∷ 7 ∷ 0 ∷ 2
    ∷ [])
    2
    ≡ (
      accepted tt,
      4096 ∷ 2096 ∷ 4 ∷ 1
          ∷ 1 ∷ 96 ∷ 0 ∷ 1 ∷ 5 ∷ 2 ∷ 0
          ∷ 2 ∷ 2000 ∷ 96 ∷ 0 ∷ 0 ∷ 3 ∷ 1
          ∷ 3 ∷ 2000 ∷ 2096 ∷ 1 ∷ 7 ∷ 0 ∷ 2
          ∷ [],
    )
unfolding free_on five
no_merge = refl

-- ---- renaming

-- Only the label changes.
renamed :
    rename_on five 5 12
    ≡ (
      accepted tt,
      4096 ∷ 696 ∷ 7 ∷ 3
          ∷ 1 ∷ 900 ∷ 100 ∷ 0 ∷ 0 ∷ 4 ∷ 3
          ∷ 3 ∷ 2500 ∷ 1500 ∷ 0 ∷ 0 ∷ 5 ∷ 4
          ∷ 4 ∷ 100 ∷ 0 ∷ 1 ∷ 7 ∷ 1 ∷ 0
          ∷ 5 ∷ 500 ∷ 1000 ∷ 2 ∷ 12 ∷ 2 ∷ 1
          ∷ 6 ∷ 96 ∷ 4000 ∷ 1 ∷ 0 ∷ 0 ∷ 2
          ∷ [],
    )
unfolding rename_on five
renamed = refl

-- ---- refusals: the first in the paper's order, and the words are kept

-- Words that are no table's, whatever else is wrong.
no_table_free : free_on (replicate 10 9) 0 ≡ (refused 1, replicate 10 9)
unfolding free_on five
no_table_free = refl

no_table_rename : rename_on (replicate 10 9) 0 12 ≡ (refused 1, replicate 10 9)
unfolding rename_on five
no_table_rename = refl

-- Those of a table that is not sound, whatever else is wrong.
not_sound_free : map (free_on broken) (0 ∷ 5 ∷ []) ≡ replicate 2 (refused 2, broken)
unfolding free_on broken
not_sound_free = refl

not_sound_rename : map (λ (id : ℕ). rename_on broken id 12) (0 ∷ 5 ∷ []) ≡ replicate 2 (refused 2, broken)
unfolding rename_on broken
not_sound_rename = refl

-- No live chunk has the id: it is no id, it is a free chunk's, or it was not given out yet.
no_live :
    map (free_on five) (0 ∷ 1 ∷ 3 ∷ 7 ∷ []) ≡ replicate 4 (refused 10, five)
unfolding free_on five
no_live = refl

no_live_rename :
    map (λ (id : ℕ). rename_on five id 12) (0 ∷ 1 ∷ 3 ∷ 7 ∷ []) ≡ replicate 4 (refused 10, five)
unfolding rename_on five
no_live_rename = refl
