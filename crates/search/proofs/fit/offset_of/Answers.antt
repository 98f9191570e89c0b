-- `search::fit::offset_of` meets its contract. Assumes nothing.
use Rattle.sub_allocator.specs.Requests.{request-words}
use Rattle.words.proofs.Spots.{used-spot}
use Rattle.search.specs.Held.{held_low}
use Rattle.search.proofs.Offsets.{aligns, raises, offset-kept, offset-raised}
use Rattle.search.proofs.fit.offset_of.Goals as goal

pub align_up-offset-requires-clause-alignment_value : goal.align_up-offset-requires-clause-alignment_value
align_up-offset-requires-clause-alignment_value c =
    (aligns _ (request-words _ _ c.well_formed.1.0.1.1.0) c.args.request.well_formed _ (held_low (used-spot _ c.args.chunk.table.sound _ c.args.chunk.held) c.args.chunk.table.sound c.word-first.ensures)).0

pub align_up-offset-requires-clause-alignment_bound : goal.align_up-offset-requires-clause-alignment_bound
align_up-offset-requires-clause-alignment_bound c =
    (aligns _ (request-words _ _ c.well_formed.1.0.1.1.0) c.args.request.well_formed _ (held_low (used-spot _ c.args.chunk.table.sound _ c.args.chunk.held) c.args.chunk.table.sound c.word-first.ensures)).1

pub returns-then-clears_before : goal.returns-then-clears_before
returns-then-clears_before c =
    offset-kept _ _ _ _ (rw (← c.word-first.ensures) c.align_up-offset.ensures) _ c.clears_before.ensures
    c.if-clears_before.true

pub align_up-requires-clause-alignment_value : goal.align_up-requires-clause-alignment_value
align_up-requires-clause-alignment_value c =
    (raises _ (request-words _ _ c.well_formed.1.0.1.1.0) c.args.request.well_formed _
    (held_low (used-spot _ c.args.chunk.table.sound _ c.args.chunk.held) c.args.chunk.table.sound c.word-first.ensures) c.align_up-offset.ensures).0

pub align_up-requires-clause-alignment_bound : goal.align_up-requires-clause-alignment_bound
align_up-requires-clause-alignment_bound c =
    (raises _ (request-words _ _ c.well_formed.1.0.1.1.0) c.args.request.well_formed _
    (held_low (used-spot _ c.args.chunk.table.sound _ c.args.chunk.held) c.args.chunk.table.sound c.word-first.ensures) c.align_up-offset.ensures).1

pub returns : goal.returns
returns c =
    offset-raised _ _ _ _ (rw (← c.word-first.ensures) c.align_up-offset.ensures) _ c.clears_before.ensures
    c.if-clears_before.false _ c.align_up.ensures
