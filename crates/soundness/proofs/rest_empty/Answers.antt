-- `soundness::rest_empty` meets its contract. Assumes nothing.
use Rattle.std.proofs.Common.{refl, sym, ◌∙◌}
use Rattle.soundness.proofs.Ways.{found_all, at_end, skip-used, not_empty, one_found}
use Rattle.soundness.proofs.rest_empty.Goals.{then-word-eq0+else-not-others_zero, else-word-eq0}
use Rattle.soundness.proofs.rest_empty.Goals as goal

pub loop-k-init : goal.loop-k-init
loop-k-init c = refl

pub returns-then-left-eq0 : goal.returns-then-left-eq0
returns-then-left-eq0 c = found_all _ _ _ c.if-left-eq0.true ∙ c.loop-k.invariant

pub returns-then-not-others_zero : goal.returns-then-not-others_zero
returns-then-not-others_zero c =
    sym (not_empty _ _ _ c.loop-k-test.true c.if-left-eq0.false (sym c.word.ensures ∙ c.if-word-eq0.true) (sym c.others_zero.ensures ∙ c.if-not-others_zero.true))
    ∙ c.loop-k.invariant

pub loop-k-preserved : goal.loop-k-preserved
loop-k-preserved c =
    elim c.if-word-eq0.branch [
      | then-word-eq0+else-not-others_zero w ↦
          rw w.left-is
          (sym (one_found _ _ _ c.loop-k-test.true c.if-left-eq0.false (sym c.word.ensures ∙ w.if-word-eq0.true) (sym w.others_zero.ensures ∙ w.if-not-others_zero.false))
          ∙ c.loop-k.invariant)
      | else-word-eq0 w ↦
          rw w.left-is
          (sym (skip-used _ _ _ c.loop-k-test.true c.if-left-eq0.false (λ e. w.if-word-eq0.false (c.word.ensures ∙ e))) ∙ c.loop-k.invariant)
    ]

pub returns : goal.returns
returns c = at_end _ _ _ c.loop-k-test.false ∙ c.loop-k.invariant
