-- What every call but creation looks at first. Assumes nothing.
use Rattle.std.specs.Prelude.{ℕ, cond, List}
use Rattle.laws.specs.Reply.{Reply, refused}
use Rattle.model.specs.Block.{Block}
use Rattle.table.specs.Layout.{is_table}
use Rattle.words.specs.Words.{Read, not_a_table, unsound, table, sound}

-- 1 where the words are no table, then 2 where the table is not sound, else 0
unfoldable pub table_fault : List ℕ → ℕ
table_fault ws = cond (is_table ws) (cond (sound ws) 0 2) 1

-- 1 where the words are no table, then 2 where the table is not sound; else what the call answers on the block
abbrev pub on_table : {A : Type 0} → (Block → Reply A) → Read → Reply A
on_table f not_a_table = refused 1
on_table f unsound = refused 2
on_table f (table b) = f b
