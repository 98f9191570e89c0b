-- What holds at each turn of `walking::walk`, and what falls. Assumes nothing.
use Rattle.std.proofs.Common.{◌-◌, ◌^◌}
use Rattle.walking.specs.Answers.{heads_and_links}
use Rattle.walking.proofs.Turns.{Turn}
use Rattle.walking.proofs.walk.Given as goal

abbrev pub invariant-loop-table : goal.invariant-loop-table
invariant-loop-table l = Turn l.w (heads_and_links l.buckets) l.at

abbrev pub decreases-loop-table : goal.decreases-loop-table
decreases-loop-table l = 2 ^ 64 - l.at.first
