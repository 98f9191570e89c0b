-- `search::empty::empty_slot` meets its contract. Assumes nothing.
use Rattle.std.proofs.Common.{◌∙◌, ap}
use Rattle.table.specs.Layout.{slot_count}
use Rattle.search.specs.Empty.{empty_scan}
use Rattle.search.specs.Slots.{within}
use Rattle.search.proofs.empty.empty_slot.Goals as goal

pub returns : goal.returns
returns c =
    c.slot_with.ensures ∙ ap (within (slot_count c.args.table.words.now)) (empty_scan _ c.args.table.sound)
