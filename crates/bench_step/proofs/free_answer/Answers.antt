-- `bench_step::free_answer` meets its contract. Assumes nothing.
use Rattle.std.proofs.Common.{refl}
use Rattle.bench_step.proofs.Answers.{free-fault}
use Rattle.bench_step.proofs.free_answer.Goals as goal

pub total_after-requires : goal.total_after-requires
total_after-requires c = free-fault _ _ _ _ c.free-freed.ensures _ refl
