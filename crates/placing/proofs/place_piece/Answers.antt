-- `placing::place_piece` meets its contract. Assumes nothing.
use Rattle.std.proofs.Common.{rules, arith}
use Rattle.placing.proofs.Placed.{no_id_left, no_slot_left, splits, piece}
use Rattle.placing.proofs.place_piece.Goals as goal

pub returns-then-id : goal.returns-then-id
returns-then-id c = no_id_left _ _ _ _ _ c.requires _ c.head-id.ensures c.if-id.true

pub returns-in_err-slot : goal.returns-in_err-slot
returns-in_err-slot c =
    search
    (rules, no_slot_left _ _ _ _ _ c.requires _ c.head-id.ensures c.if-id.false _ c.empty_slot.ensures _ c.in_err-slot.ensures.value)

pub split_off-requires : goal.split_off-requires
split_off-requires c = splits _ _ _ _ _ c.requires _ c.head-id.ensures c.if-id.false _ c.empty_slot.ensures _ c.in_ok-slot.ensures.value (omega arith)

pub returns : goal.returns
returns c =
    piece _ _ _ _ _ c.requires _ c.head-id.ensures c.if-id.false _ c.empty_slot.ensures _ c.in_ok-slot.ensures.value _ c.mark_of.ensures _
    c.split_off.ensures
