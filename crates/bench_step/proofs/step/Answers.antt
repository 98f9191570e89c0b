-- `bench_step::step` meets its contract. Assumes nothing.
use Rattle.std.proofs.Common.{arith}
use Rattle.bench_step.proofs.Steps.{no_block, called, unread}
use Rattle.bench_step.proofs.step.Goals as goal

pub returns-in-Allocate : goal.returns-in-Allocate
returns-in-Allocate c =
    rw (c.in-Some.is, c.in-Allocate.is) (called _ _ _ c.requires.1 (λ e. omega arith) _ _ c.allocate_answer.ensures)

pub returns-in-Free : goal.returns-in-Free
returns-in-Free c = rw (c.in-Some.is, c.in-Free.is) (called _ _ _ c.requires.1 (λ e. omega arith) _ _ c.free_answer.ensures)

pub returns-in_default-call : goal.returns-in_default-call
returns-in_default-call c = rw (c.in-Some.is, c.in-Allocate.is) (no_block _ _ _ c.requires.1 (omega arith))

pub returns-in_default-call-2 : goal.returns-in_default-call-2
returns-in_default-call-2 c = rw (c.in-Some.is, c.in-Free.is) (no_block _ _ _ c.requires.1 (omega arith))

pub returns-in_default : goal.returns-in_default
returns-in_default c = rw c.in_default.is (unread _ _ c.requires.1)
