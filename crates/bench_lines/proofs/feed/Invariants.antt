-- What the loop of `bench_lines::feed` keeps. Assumes nothing.
use Rattle.bench_lines.proofs.Runs.{Going}
use Rattle.bench_lines.proofs.feed.Given as goal

abbrev pub invariant-loop-read : goal.invariant-loop-read
invariant-loop-read l = Going l.text l.from (l.initial.bench, l.initial.store, l.initial.out) l.read l.bench l.store l.out
