-- Worked examples of placing, by computing: literal words in, literal words out. Assumes nothing.
use Rattle.std.specs.Prelude.{ℕ, ◌-◌, ◌^◌, List, [], ◌∷◌, map, ◌≡◌, refl, replicate, set}
use Rattle.laws.specs.Reply.{Reply, accepted, refused}
use Rattle.model.specs.Placing.{Request}
use Rattle.table.specs.Layout.{at}
use Rattle.sub_allocator.specs.Answers.{Given}
use Rattle.opening.specs.FiveChunks.{five, six, broken}
use Rattle.placing.specs.Placing.{allocate_on}

abbrev pub request : ℕ → ℕ → ℕ → ℕ → ℕ → Request
request size alignment kind granularity label =
    record { size = size; alignment = alignment; kind = kind; granularity = granularity; label = label }

abbrev pub placed : ℕ → ℕ → Reply Given
placed offset id = accepted record { offset = offset; id = id }

-- ---- accepted

-- Split: the left piece, padding included, takes the new id and the empty slot; the remainder keeps the old id.
split :
    allocate_on six (request 200 64 2 1 8)
    ≡ (
      placed 128 7,
      4096 ∷ 924 ∷ 8 ∷ 3
          ∷ 1 ∷ 672 ∷ 328 ∷ 0 ∷ 0 ∷ 4 ∷ 6
          ∷ 3 ∷ 2500 ∷ 1500 ∷ 0 ∷ 0 ∷ 5 ∷ 4
          ∷ 4 ∷ 100 ∷ 0 ∷ 1 ∷ 7 ∷ 6 ∷ 0
          ∷ 5 ∷ 500 ∷ 1000 ∷ 2 ∷ 9 ∷ 2 ∷ 1
          ∷ 6 ∷ 96 ∷ 4000 ∷ 1 ∷ 0 ∷ 0 ∷ 2
          ∷ 7 ∷ 228 ∷ 100 ∷ 2 ∷ 8 ∷ 1 ∷ 3
          ∷ [],
    )
unfolding allocate_on six
split = refl

-- Where the page rule leaves no room in the smaller chunk, the larger one is taken.
split_larger :
    allocate_on six (request 200 64 2 1024 8)
    ≡ (
      placed 1536 7,
      4096 ∷ 932 ∷ 8 ∷ 3
          ∷ 1 ∷ 900 ∷ 100 ∷ 0 ∷ 0 ∷ 4 ∷ 3
          ∷ 3 ∷ 2264 ∷ 1736 ∷ 0 ∷ 0 ∷ 5 ∷ 6
          ∷ 4 ∷ 100 ∷ 0 ∷ 1 ∷ 7 ∷ 1 ∷ 0
          ∷ 5 ∷ 500 ∷ 1000 ∷ 2 ∷ 9 ∷ 6 ∷ 1
          ∷ 6 ∷ 96 ∷ 4000 ∷ 1 ∷ 0 ∷ 0 ∷ 2
          ∷ 7 ∷ 236 ∷ 1500 ∷ 2 ∷ 8 ∷ 2 ∷ 4
          ∷ [],
    )
unfolding allocate_on six
split_larger = refl

-- An exact fit: the chunk is live under its own id, and no id and no slot is spent.
exact :
    allocate_on five (request 900 1 1 1 8)
    ≡ (
      placed 100 1,
      4096 ∷ 1596 ∷ 7 ∷ 3
          ∷ 1 ∷ 900 ∷ 100 ∷ 1 ∷ 8 ∷ 4 ∷ 3
          ∷ 3 ∷ 2500 ∷ 1500 ∷ 0 ∷ 0 ∷ 5 ∷ 4
          ∷ 4 ∷ 100 ∷ 0 ∷ 1 ∷ 7 ∷ 1 ∷ 0
          ∷ 5 ∷ 500 ∷ 1000 ∷ 2 ∷ 9 ∷ 2 ∷ 1
          ∷ 6 ∷ 96 ∷ 4000 ∷ 1 ∷ 0 ∷ 0 ∷ 2
          ∷ [],
    )
unfolding allocate_on five
exact = refl

-- ---- refusals: the first in the paper's order, and the words are kept

-- the words with the last of all next ids: neither an id nor a slot is left
used_up : List ℕ
unfolding five
used_up = set five 2 (2 ^ 64 - 1)

-- Words that are no table's, whatever else is wrong.
no_table : allocate_on (replicate 10 9) (request 0 3 0 3 0) ≡ (refused 1, replicate 10 9)
unfolding allocate_on five
no_table = refl

-- Those of a table that is not sound, whatever else is wrong.
not_sound : allocate_on broken (request 0 3 0 3 0) ≡ (refused 2, broken)
unfolding allocate_on broken
not_sound = refl

-- Faults of the request, one or several at once.
request-faults :
    map (allocate_on five)
    (request 0 3 0 3 0
    ∷ request 0 1 1 1 0
    ∷ request 9999 0 0 0 0
    ∷ request 1 3 1 1 0
    ∷ request 9999 1 0 0 0
    ∷ request 1 1 1 3 0
    ∷ request 9999 1 0 1 0
    ∷ request 1 1 3 1 0
    ∷ request 1 1 257 1 0
    ∷ [])
    ≡ (refused 3, five)
    ∷ (refused 3, five)
    ∷ (refused 4, five)
    ∷ (refused 4, five)
    ∷ (refused 5, five)
    ∷ (refused 5, five)
    ∷ (refused 6, five)
    ∷ (refused 6, five)
    ∷ (refused 6, five)
    ∷ []
unfolding allocate_on five
request-faults = refl

-- No free chunk holds the request; a split with the ids used up, and the slots with them.
no_room : allocate_on used_up (request 2501 1 1 1 0) ≡ (refused 7, used_up)
unfolding allocate_on used_up
no_room = refl

no_ids : allocate_on used_up (request 1 1 1 1 0) ≡ (refused 8, used_up)
unfolding allocate_on used_up
no_ids = refl

-- A split with the slots used up.
no_slots : allocate_on five (request 1 1 1 1 0) ≡ (refused 9, five)
unfolding allocate_on five
no_slots = refl

-- Neither keeps an exact fit from being accepted: every word but these three is as it was.
exact_used_up :
    allocate_on used_up (request 900 1 1 1 8) ≡ (placed 100 1, set (set (set used_up 1 1596) (at 1 3) 1) (at 1 4) 8)
unfolding allocate_on used_up
exact_used_up = refl
