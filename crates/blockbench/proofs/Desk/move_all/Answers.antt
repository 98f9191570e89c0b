-- `blockbench::Desk::move_all` meets its contract. Assumes nothing.
use Rattle.blockbench.proofs.Moves.{begins, turn}
use Rattle.blockbench.proofs.Desk.move_all.Goals as goal

pub loop-read-init : goal.loop-read-init
loop-read-init c = begins _ _ _ c.args.self.now.fits

pub loop-read-preserved : goal.loop-read-preserved
loop-read-preserved c = turn _ _ _ _ _ c.loop-read.invariant c.loop-read-test.true _ _ c.in_ok-read.ensures.ok
