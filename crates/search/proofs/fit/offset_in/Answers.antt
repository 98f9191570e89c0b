-- `search::fit::offset_in` meets its contract. Assumes nothing.
use Rattle.words.proofs.Spots.{spot-used}
use Rattle.search.proofs.fit.offset_in.Goals as goal

pub invariant_of-offset_of : goal.invariant_of-offset_of
invariant_of-offset_of c = record { held = spot-used _ c.args.table.sound _ c.requires.0 c.requires.1 }
