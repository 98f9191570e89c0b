-- The paper's examples as runs on words, by computing: calls in, a line for each and every word out. Definitions. Assumes nothing.
use Rattle.std.specs.Prelude.{ℕ, List, [], ◌∷◌, replicate}
use Rattle.laws.specs.Every.{every}
use Rattle.laws.specs.Members.{has, distinct, same}
use Rattle.model.specs.Lines.{Line, line, lines}
use Rattle.table.specs.Layout.{is_table}
use Rattle.words.specs.Checks.{up_to}
use Rattle.words.specs.Words.{row_at, rows, encode, read, chunks_of, block_of, chunk_ok, all_ok, none_free, rules, sound, decode}
use Rattle.opening.specs.Creation.{new_on}
use Rattle.opening.specs.Questions.{allocated_on}
use Rattle.placing.specs.Placing.{allocate_on}
use Rattle.giving_back.specs.GivingBack.{free_on, rename_on}
use Rattle.block.specs.Runs.{WordsState, begin_on, lines_on}

-- a new block of so many bytes in a table of old content; what the examples compute with is opened here, once
unfoldable pub on_old : ℕ → ℕ → WordsState
unfolding new_on up_to allocated_on is_table decode sound rules none_free all_ok chunk_ok block_of chunks_of read encode rows row_at every has distinct same allocate_on free_on rename_on lines lines_on
on_old words size = begin_on (replicate words 9) size

-- what each answers, and the bytes allocated after it
abbrev pub ten_lines : List Line
ten_lines =
    line 0 0 2 100
    ∷ line 0 1024 3 1280
    ∷ line 0 2048 4 2064
    ∷ line 0 0 0 1964
    ∷ line 0 2064 5 1980
    ∷ line 0 0 2 2080
    ∷ line 0 0 0 900
    ∷ line 0 0 0 800
    ∷ line 10 0 0 800
    ∷ line 3 0 0 800
    ∷ line 4 0 0 800
    ∷ line 4 0 0 800
    ∷ []

-- every word after them
abbrev pub ten_words : List ℕ
ten_words =
    4096 ∷ 800 ∷ 6 ∷ 2
    ∷ 1 ∷ 2016 ∷ 2080 ∷ 0 ∷ 0 ∷ 0 ∷ 5
    ∷ 2 ∷ 1280 ∷ 0 ∷ 0 ∷ 0 ∷ 4 ∷ 0
    ∷ 0 ∷ 0 ∷ 0 ∷ 0 ∷ 0 ∷ 0 ∷ 0
    ∷ 4 ∷ 784 ∷ 1280 ∷ 1 ∷ 0 ∷ 5 ∷ 2
    ∷ 5 ∷ 16 ∷ 2064 ∷ 1 ∷ 0 ∷ 1 ∷ 4
    ∷ 0 ∷ 0 ∷ 0 ∷ 0 ∷ 0 ∷ 0 ∷ 0
    ∷ 0 ∷ 0 ∷ 0 ∷ 0 ∷ 0 ∷ 0 ∷ 0
    ∷ 0 ∷ 0 ∷ 0 ∷ 0 ∷ 0 ∷ 0 ∷ 0
    ∷ []
