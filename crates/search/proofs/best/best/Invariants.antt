-- The loop of `search::best::best`: what it has searched so far, and that it goes up in the addresses. Assumes nothing.
use Rattle.sub_allocator.specs.Requests.{request_of}
use Rattle.search.proofs.Walking.{Walking, left_of}
use Rattle.search.proofs.best.best.Given as goal

abbrev pub invariant-loop-next : goal.invariant-loop-next
invariant-loop-next l = Walking l.table (request_of l.request.request) l.next l.best l.spare

abbrev pub decreases-loop-next : goal.decreases-loop-next
decreases-loop-next l = left_of l.table l.next
