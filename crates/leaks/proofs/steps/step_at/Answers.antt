-- `leaks::steps::step_at` meets its contract. Assumes nothing.
use Rattle.std.specs.Prelude.{Option, Ok}
use Rattle.std.proofs.Common.{arith, sym, ap, ◌∙◌}
use Rattle.leaks.specs.Leaks.{Live, reply_leak}
use Rattle.leaks.proofs.Handed.{leak_within}
use Rattle.leaks.proofs.steps.step_at.Goals as goal

pub overflow_add-place : goal.overflow_add-place
overflow_add-place c =
    let e = sym c.in_ok-found.ensures ∙ ap (λ (o : Option Live). reply_leak (Ok o)) c.in-Some.is in
    omega (arith, leak_within _ _ _ e)
