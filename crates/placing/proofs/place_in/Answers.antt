-- `placing::place_in` meets its contract. Assumes nothing.
use Rattle.std.proofs.Common.{arith}
use Rattle.placing.proofs.Placed.{slot-in, takes_whole, above, short, measured, whole}
use Rattle.placing.proofs.place_in.Goals as goal

pub word-requires : goal.word-requires
word-requires c = slot-in _ _ _ c.requires

pub overflow_sub-n : goal.overflow_sub-n
overflow_sub-n c = above _ _ _ c.requires _ _ c.offset_in-offset.ensures c.word.ensures

pub overflow_add-n : goal.overflow_add-n
overflow_add-n c = omega (arith, short _ _ _ c.requires _ _ c.offset_in-offset.ensures c.word.ensures)

pub word-requires-2 : goal.word-requires-2
word-requires-2 c = slot-in _ _ _ c.requires

pub place_piece-requires : goal.place_piece-requires
place_piece-requires c =
    measured _ _ _ c.requires _ _ c.offset_in-offset.ensures c.word.ensures _ c.word-2.ensures
    (omega (arith, c.if-n-word.true))

pub word-id-requires : goal.word-id-requires
word-id-requires c = slot-in _ _ _ c.requires

pub take_whole-requires : goal.take_whole-requires
take_whole-requires c = takes_whole _ _ _ c.requires

pub returns : goal.returns
returns c =
    whole _ _ _ c.requires _ _ c.offset_in-offset.ensures c.word.ensures _ c.word-2.ensures _ c.word-id.ensures
    (omega (arith, c.if-n-word.false)) _ c.mark_of.ensures _ c.take_whole.ensures
