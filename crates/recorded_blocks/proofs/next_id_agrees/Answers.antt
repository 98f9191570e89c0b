-- `recorded_blocks::next_id_agrees` meets its contract: a table has the word of the next id. Assumes nothing.
use Rattle.std.proofs.Common.{arith, sym, ◌∙◌}
use Rattle.table.specs.Layout.{table_shape}
use Rattle.recorded_blocks.proofs.next_id_agrees.Goals as goal

pub set_head-requires : goal.set_head-requires
set_head-requires c = omega (arith, (table_shape _ (sym c.is_table.ensures ∙ c.if-not-is_table.false)).2)
