-- Creation: 1, then 13, and no look at old content. Assumes nothing.
use Rattle.std.specs.Prelude.{ℕ, Bool, cond, List}
use Rattle.laws.specs.Reply.{Reply, accepted, refused}
use Rattle.model.specs.Block.{fresh, largest_block}
use Rattle.table.specs.Layout.{is_table, slot_count}
use Rattle.words.specs.Checks.{up_to}
use Rattle.words.specs.Words.{encode}

-- a free-list block has 1 to 2^40 bytes
abbrev pub is_block_size : ℕ → Bool
is_block_size size = up_to largest_block size

-- the call: the answer and every word after it; a refusal keeps the words
unfoldable pub new_on : List ℕ → ℕ → Reply (Unit {0}) × List ℕ
new_on ws size =
    cond (is_table ws)
    (cond (is_block_size size) (accepted tt, encode (fresh size (slot_count ws))) (refused 13, ws))
    (refused 1, ws)
