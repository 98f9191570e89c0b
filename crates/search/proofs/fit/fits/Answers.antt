-- `search::fit::fits` meets its contract. Assumes nothing.
use Rattle.std.proofs.Common.{arith}
use Rattle.sub_allocator.specs.Requests.{request-words}
use Rattle.words.proofs.Spots.{used-spot}
use Rattle.search.proofs.Offsets.{ends, too_long, long-enough}
use Rattle.search.proofs.fit.fits.Goals as goal

pub overflow_sub-padding : goal.overflow_sub-padding
overflow_sub-padding c =
    (ends _ (request-words _ _ c.well_formed.1.0.1.1.0) c.args.request.well_formed _ _ (used-spot _ c.args.chunk.table.sound _ c.args.chunk.held) c.args.chunk.table.sound c.requires _ _ _
    c.word-first.ensures c.offset_of-offset.ensures).0

pub overflow_add-padding : goal.overflow_add-padding
overflow_add-padding c =
    let b =
    ends _ (request-words _ _ c.well_formed.1.0.1.1.0) c.args.request.well_formed _ _ (used-spot _ c.args.chunk.table.sound _ c.args.chunk.held) c.args.chunk.table.sound c.requires _ _ _
    c.word-first.ensures c.offset_of-offset.ensures in
    omega (arith, b.1, b.0)

pub returns-then-word-padding : goal.returns-then-word-padding
returns-then-word-padding c =
    too_long _ _ _ _ _ _ c.offset_of-offset.ensures
    (omega (arith, c.word-first.ensures, c.word.ensures, c.if-word-padding.true))

pub clears_after-requires : goal.clears_after-requires
clears_after-requires c =
    let b =
    ends _ (request-words _ _ c.well_formed.1.0.1.1.0) c.args.request.well_formed _ _ (used-spot _ c.args.chunk.table.sound _ c.args.chunk.held) c.args.chunk.table.sound c.requires _ _ _
    c.word-first.ensures c.offset_of-offset.ensures in
    omega (arith, b)

pub returns : goal.returns
returns c =
    long-enough _ _ _ _ _ _ c.offset_of-offset.ensures
    (omega (arith, c.word-first.ensures, c.word.ensures, c.if-word-padding.false)) _ c.clears_after.ensures
