-- `Shown::of` meets its contract. Assumes nothing.
use Rattle.std.proofs.Common.{◌≡◌, ◌-◌, ◌+◌, refl, arith, sym, ap, ◌∙◌}
use Rattle.byte_text.specs.ByteText.{shown_as, divided}
use Rattle.byte_text.specs.ByteTextLaws.{shown-small, shown-divided, divided-stops}
use Rattle.byte_text.proofs.Parts.{turn, unit_at}
use Rattle.byte_text.proofs.Shown.of.Goals as goal

pub returns-then-amount-lt1024 : goal.returns-then-amount-lt1024
returns-then-amount-lt1024 c = sym (shown-small _ c.if-amount-lt1024.true)

pub loop-unit-init : goal.loop-unit-init
loop-unit-init c = refl

pub returns-then-left-lt1024 : goal.returns-then-left-lt1024
returns-then-left-lt1024 c =
    let i = c.loop-unit.unit-index in
    ap (shown_as c.loop-unit.left 1024) (unit_at i c.loop-unit-test.true)
    ∙ sym (divided-stops (3 - i) (i + 1) _ c.if-left-lt1024.true) ∙ c.loop-unit.invariant
    ∙ sym (shown-divided _ c.if-amount-lt1024.false)

pub loop-unit-preserved : goal.loop-unit-preserved
loop-unit-preserved c = turn _ _ _ c.loop-unit-test.true c.if-left-lt1024.false c.loop-unit.invariant

-- After GB there is only TB.
pub returns : goal.returns
unfolding divided
returns c =
    let l = c.loop-unit in
    let last : l.unit-index ≡ 3 = omega arith in
    ap (λ k. divided (3 - k) (k + 1) l.left) (sym last) ∙ l.invariant ∙ sym (shown-divided _ c.if-amount-lt1024.false)
