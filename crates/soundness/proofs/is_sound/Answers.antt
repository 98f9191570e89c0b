-- `soundness::is_sound` meets its contract. Assumes nothing.
use Rattle.std.proofs.Common.{sym, ◌∙◌, arith}
use Rattle.table.specs.Layout.{table_shape}
use Rattle.soundness.proofs.Verdict.{next_known, met-fits, bad-head, bad-walk, by-rest}
use Rattle.soundness.proofs.is_sound.Goals as goal

pub head_ok-requires : goal.head_ok-requires
head_ok-requires c = omega (arith, table_shape _ c.requires)

pub returns-then-not-head_ok : goal.returns-then-not-head_ok
returns-then-not-head_ok c = bad-head _ c.requires (sym c.head_ok.ensures ∙ c.if-not-head_ok.true)

pub walk-requires : goal.walk-requires
walk-requires c = (c.requires, next_known _ (sym c.head_ok.ensures ∙ c.if-not-head_ok.false))

pub returns-in_default : goal.returns-in_default
returns-in_default c = bad-walk _ c.requires (sym c.walk.ensures ∙ c.in_default.is)

pub overflow_sub-s : goal.overflow_sub-s
overflow_sub-s c = rw c.slot_count-s.ensures (met-fits _ _ (sym c.walk.ensures ∙ c.in-Some.is))

pub returns : goal.returns
returns c =
    c.rest_empty.ensures
    ∙ rw c.slot_count-s.ensures (by-rest _ c.requires _ (sym c.head_ok.ensures ∙ c.if-not-head_ok.false) (sym c.walk.ensures ∙ c.in-Some.is))
