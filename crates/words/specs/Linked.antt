-- Words that along "next" hold the chunks of a list, and whose "previous" agrees. Assumes nothing.
use Rattle.std.specs.Prelude.{ℕ, ◌+◌, List, [], ◌∷◌, ◌≡◌}
use Rattle.model.specs.Block.{Chunk}
use Rattle.table.specs.Layout.{next_at, row}
use Rattle.words.specs.Words.{row_of}

-- from slot k, with slot prev before it, the words hold the chunks of the list, the first of which begins at `first`
abbrev pub Linked : List ℕ → ℕ → ℕ → ℕ → List Chunk → Type 0
Linked ws prev k first [] = k ≡ 0
Linked ws prev k first (c ∷ cs) =
    (k ≡ c.slot) × (row ws k ≡ row_of prev first (next_at ws k) c) × Linked ws k (next_at ws k) (first + c.size) cs
