-- `table::layout::slot_count` meets its contract. Assumes nothing.
use Rattle.std.proofs.Common.{arith}
use Rattle.table.specs.Layout.{table_shape}
use Rattle.table.proofs.layout.slot_count.Goals as goal

pub overflow_sub-result : goal.overflow_sub-result
overflow_sub-result c = omega (arith, table_shape _ c.requires)
