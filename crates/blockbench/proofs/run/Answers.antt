-- `blockbench::run` meets its contract. Assumes nothing.
use Rattle.std.proofs.Common.{arith}
use Rattle.blockbench.proofs.Moves.{begin-fits}
use Rattle.blockbench.proofs.run.Goals as goal

pub invariant_of-desk : goal.invariant_of-desk
invariant_of-desk c = record { fits = begin-fits _ _ c.new.ensures (omega arith) }
