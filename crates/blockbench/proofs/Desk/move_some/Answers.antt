-- `blockbench::Desk::move_some` meets its contract. Assumes nothing.
use Rattle.std.proofs.Common.{arith}
use Rattle.bench_lines.specs.Fits.{fitting}
use Rattle.blockbench.proofs.Moves.{begin-fits, written}
use Rattle.blockbench.proofs.Desk.move_some.Goals as goal

pub invariant_of-self : goal.invariant_of-self
invariant_of-self c =
    let w = written _ _ _ _ _ c.args.self.now.fits (omega arith) _ _ _ c.feed-fed.ensures.out_after in
    record { fits = begin-fits _ _ c.new-self.ensures (fitting _ _ w.long).0 }

pub invariant_of-self-else-is_err : goal.invariant_of-self-else-is_err
invariant_of-self-else-is_err c =
    record { fits = (written _ _ _ _ _ c.args.self.now.fits (omega arith) _ _ _ c.feed-fed.ensures.out_after).long }

pub returns-clause-ok : goal.returns-clause-ok
returns-clause-ok c = written _ _ _ _ _ c.args.self.now.fits (omega arith) _ _ _ c.feed-fed.ensures.out_after
