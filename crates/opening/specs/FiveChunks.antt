-- Tables of five chunks, from which worked examples start. Assumes nothing.
use Rattle.std.specs.Prelude.{ℕ, List, [], ◌∷◌, ◌++◌, set}
use Rattle.laws.specs.Every.{every}
use Rattle.laws.specs.Members.{has, distinct, same}
use Rattle.model.specs.Lines.{lines}
use Rattle.table.specs.Layout.{is_table, empty_row}
use Rattle.words.specs.Checks.{up_to}
use Rattle.words.specs.Words.{row_at, rows, encode, read, chunks_of, block_of, chunk_ok, all_ok, none_free, rules, sound, decode}

-- 4096 bytes in five slots: by rising address slot 3 is live, 1 free, 4 live, 2 free and 5 live; what the examples compute
-- with, but for the calls themselves, is opened here, once
unfoldable pub five : List ℕ
unfolding lines up_to is_table decode sound rules none_free all_ok chunk_ok block_of chunks_of read encode rows row_at every has distinct same
five =
    4096 ∷ 696 ∷ 7 ∷ 3
    ∷ 1 ∷ 900 ∷ 100 ∷ 0 ∷ 0 ∷ 4 ∷ 3
    ∷ 3 ∷ 2500 ∷ 1500 ∷ 0 ∷ 0 ∷ 5 ∷ 4
    ∷ 4 ∷ 100 ∷ 0 ∷ 1 ∷ 7 ∷ 1 ∷ 0
    ∷ 5 ∷ 500 ∷ 1000 ∷ 2 ∷ 9 ∷ 2 ∷ 1
    ∷ 6 ∷ 96 ∷ 4000 ∷ 1 ∷ 0 ∷ 0 ∷ 2
    ∷ []

-- the same with one more slot, which is empty
unfoldable pub six : List ℕ
unfolding five
six = five ++ empty_row

-- the words with another total: it is no more the sum of the live sizes
unfoldable pub broken : List ℕ
unfolding five
broken = set five 1 697
