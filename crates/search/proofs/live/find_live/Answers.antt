-- `search::live::find_live` meets its contract. Assumes nothing.
use Rattle.std.proofs.Common.{sym, ap, refl, ◌∙◌, arith, eqb-true}
use Rattle.std.proofs.lemmas.Bool.{eqb-false}
use Rattle.words.proofs.Written.{sound_is_table}
use Rattle.search.specs.Slots.{some_slot, slot_some, not_within, is_within}
use Rattle.search.proofs.LiveWays.{no_slot, in_range, free-slot, live-slot}
use Rattle.search.proofs.live.find_live.Goals as goal

pub returns-in_err-k : goal.returns-in_err-k
returns-in_err-k c =
    c.from_residual.ensures
    ∙ ap some_slot
    (no_slot _ (sound_is_table _ c.args.table.sound) c.args.table.sound c.args.id _ refl
    (not_within _ _ (sym c.slot_with.ensures ∙ c.in_err-k.was)))

pub is_free-requires : goal.is_free-requires
is_free-requires c =
    let h = is_within _ _ _ (sym c.slot_with.ensures ∙ c.in_ok-k.was) in
    in_range _ (sound_is_table _ c.args.table.sound) c.args.table.sound c.args.id _ (sym h.0) (omega (arith, h.0, h.1))

pub returns-then-is_free : goal.returns-then-is_free
returns-then-is_free c =
    let h = is_within _ _ _ (sym c.slot_with.ensures ∙ c.in_ok-k.was) in
    ap some_slot
    (free-slot _ (sound_is_table _ c.args.table.sound) c.args.table.sound c.args.id _ (sym h.0) (omega (arith, h.0, h.1))
    (eqb-true _ _ (sym c.is_free.ensures ∙ c.if-is_free.true)))

pub returns : goal.returns
returns c =
    let h = is_within _ _ _ (sym c.slot_with.ensures ∙ c.in_ok-k.was) in
    let k = in_range _ (sound_is_table _ c.args.table.sound) c.args.table.sound c.args.id _ (sym h.0) (omega (arith, h.0, h.1)) in
    slot_some _ (λ z. omega (arith, k.0))
    ∙ ap some_slot
    (live-slot _ (sound_is_table _ c.args.table.sound) c.args.table.sound c.args.id _ (sym h.0) (omega (arith, h.0, h.1))
    (eqb-false _ _ (sym c.is_free.ensures ∙ c.if-is_free.false)))
