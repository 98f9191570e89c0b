-- `placing::allocate` meets its contract. Assumes nothing.
use Rattle.std.proofs.Common.{rules}
use Rattle.words.proofs.Written.{sound_is_table}
use Rattle.placing.proofs.Placed.{no_block, ill_formed, no_room, on_chosen, chosen_in}
use Rattle.placing.proofs.allocate.Goals as goal

pub returns-in_err-table : goal.returns-in_err-table
returns-in_err-table c = search (rules, no_block)

pub returns-in_err-request : goal.returns-in_err-request
returns-in_err-request c =
    let t = c.in_ok-table.table in
    let w = sound_is_table _ t.sound in
    search (rules, ill_formed)

pub returns-in_err-k : goal.returns-in_err-k
returns-in_err-k c =
    let t = c.in_ok-table.table in
    search
    (rules, no_room _ _ (sound_is_table _ t.sound) t.sound c.in_ok-request.request.well_formed _ c.best.ensures _ c.in_err-k.ensures.value)

pub place_in-requires : goal.place_in-requires
place_in-requires c =
    let t = c.in_ok-table.table in
    search
    (rules, chosen_in _ _ (sound_is_table _ t.sound) t.sound c.in_ok-request.request.well_formed _ c.best.ensures _ c.in_ok-k.ensures.value)

pub returns : goal.returns
returns c =
    let t = c.in_ok-table.table in
    search (rules, on_chosen _ _ (sound_is_table _ t.sound) t.sound c.in_ok-request.request.well_formed _ c.best.ensures)
