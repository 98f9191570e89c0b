-- What the loop of `blockbench::Desk::move_all` keeps, and how it ends. Assumes nothing.
use Rattle.std.proofs.Common.{length, ◌-◌}
use Rattle.blockbench.proofs.Moves.{Going}
use Rattle.blockbench.proofs.Desk.move_all.Given as goal

abbrev pub invariant-loop-read : goal.invariant-loop-read
invariant-loop-read l = Going l.text l.initial.self.bench l.initial.self.store record { bench = l.self.bench; read = l.read } l.self.store

abbrev pub decreases-loop-read : goal.decreases-loop-read
decreases-loop-read l = length l.text - l.read
