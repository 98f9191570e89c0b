-- `bench_step::allocate_answer` meets its contract. Assumes nothing.
use Rattle.std.proofs.Common.{refl}
use Rattle.bench_step.proofs.Answers.{allocate-fault}
use Rattle.bench_step.proofs.allocate_answer.Goals as goal

pub total_after-allocated-requires : goal.total_after-allocated-requires
total_after-allocated-requires c = allocate-fault _ _ _ _ c.allocate-placed.ensures _ refl
