-- What the loop of `leaks::live::first_from` keeps, and what falls. Assumes nothing.
use Rattle.search.specs.Along.{ahead}
use Rattle.leaks.proofs.Finding.{Finding}
use Rattle.leaks.proofs.live.first_from.Given as goal

abbrev pub invariant-loop-k : goal.invariant-loop-k
invariant-loop-k l = Finding l.table.words.now l.address l.k

abbrev pub decreases-loop-k : goal.decreases-loop-k
decreases-loop-k l = ahead l.table.words.now l.k
