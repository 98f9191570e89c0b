-- `search::held::first` meets its contract. Assumes nothing.
use Rattle.std.proofs.Common.{arith}
use Rattle.table.specs.Layout.{table_shape}
use Rattle.words.proofs.Spots.{spot-used}
use Rattle.words.proofs.Written.{sound_is_table}
use Rattle.search.specs.Along.{along-first, along-held}
use Rattle.search.proofs.held.first.Goals as goal

pub head-requires : goal.head-requires
head-requires c = omega (arith, (table_shape _ (sound_is_table _ c.args.table.sound)).2)

pub in_slot-requires : goal.in_slot-requires
in_slot-requires c = λ n.
    let t = c.args.table in
    let h = along-held _ t.sound _ _ _ (along-first _ t.sound _ c.head.ensures) n in
    spot-used _ t.sound _ h.0 h.1
