-- `blockbench::Desk::move_got` meets its contract. Assumes nothing.
use Rattle.bench_lines.specs.Fits.{fitting}
use Rattle.blockbench.proofs.Moves.{begin-fits}
use Rattle.blockbench.proofs.Desk.move_got.Goals as goal

pub invariant_of-self : goal.invariant_of-self
invariant_of-self c = record { fits = begin-fits _ _ c.new-self.ensures (fitting _ _ c.args.self.now.fits).0 }
