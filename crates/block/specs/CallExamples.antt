-- Worked examples of calls one after another, by computing: literal words in, literal words out. Assumes nothing.
use Rattle.std.specs.Prelude.{[], ◌∷◌, ◌++◌, ◌≡◌, refl}
use Rattle.model.specs.Runs.Call.{free}
use Rattle.table.specs.Layout.{empty_row}
use Rattle.opening.specs.FiveChunks.{five, six}
use Rattle.placing.specs.Placing.{allocate_on}
use Rattle.placing.specs.PlacingExamples.{request, placed}
use Rattle.giving_back.specs.GivingBack.{free_on}
use Rattle.block.specs.Runs.{run_on}

-- All given back: one free chunk is left, under the first one's id and in its slot.
all_free :
    (run_on (free 5 ∷ free 4 ∷ free 6 ∷ []) record { words = five; live = [] }).words
    ≡ (4096 ∷ 0 ∷ 7 ∷ 3 ∷ []) ++ empty_row ++ empty_row ++ (4 ∷ 4096 ∷ 0 ∷ 0 ∷ 0 ∷ 0 ∷ 0 ∷ []) ++ empty_row ++ empty_row
unfolding free_on five
all_free = refl

-- A zeroed slot is used again, the lowest first.
used_again :
    allocate_on (free_on six 5).1 (request 900 1 1 1 8)
    ≡ (
      placed 100 7,
      4096 ∷ 1096 ∷ 8 ∷ 3
          ∷ 1 ∷ 3000 ∷ 1000 ∷ 0 ∷ 0 ∷ 5 ∷ 2
          ∷ 7 ∷ 900 ∷ 100 ∷ 1 ∷ 8 ∷ 1 ∷ 3
          ∷ 4 ∷ 100 ∷ 0 ∷ 1 ∷ 7 ∷ 2 ∷ 0
          ∷ 0 ∷ 0 ∷ 0 ∷ 0 ∷ 0 ∷ 0 ∷ 0
          ∷ 6 ∷ 96 ∷ 4000 ∷ 1 ∷ 0 ∷ 0 ∷ 1
          ∷ 0 ∷ 0 ∷ 0 ∷ 0 ∷ 0 ∷ 0 ∷ 0
          ∷ [],
    )
unfolding allocate_on free_on six
used_again = refl
