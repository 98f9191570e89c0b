-- `bench_step::new_step` meets its contract. Assumes nothing.
use Rattle.std.proofs.Common.{refl, sym, ◌∙◌, length-take-le}
use Rattle.laws.specs.Reply.{accepted, refused}
use Rattle.refusals.specs.Refusals.{number_of}
use Rattle.refusals.proofs.Refusals.{number-positive}
use Rattle.bench_step.proofs.Kept.{slots_most}
use Rattle.bench_step.proofs.Steps.{slot_words, no_slots, new-refused, new-made}
use Rattle.bench_step.proofs.new_step.Goals as goal

pub returns-then-not-is_up_to : goal.returns-then-not-is_up_to
returns-then-not-is_up_to c = no_slots _ _ _ _ c.requires.1 (sym c.is_up_to.ensures ∙ c.if-not-is_up_to.true)

pub word_count-end-requires : goal.word_count-end-requires
word_count-end-requires c = slots_most _ (sym c.is_up_to.ensures ∙ c.if-not-is_up_to.false)

pub slice_bounds-new-end : goal.slice_bounds-new-end
slice_bounds-new-end c = slot_words _ _ _ c.word_count-end.ensures (sym c.is_up_to.ensures ∙ c.if-not-is_up_to.false) c.requires.0

pub slice_bounds-new-end-2 : goal.slice_bounds-new-end-2
slice_bounds-new-end-2 c =
    sym (length-take-le _ _ (slot_words _ _ _ c.word_count-end.ensures (sym c.is_up_to.ensures ∙ c.if-not-is_up_to.false) c.requires.0))

pub returns-in-Ok : goal.returns-in-Ok
returns-in-Ok c =
    rw (c.default.ensures.0, c.default.ensures.1.0, c.default.ensures.1.1.0, c.default.ensures.1.1.1)
    (new-made _ c.args.lent _ _ _ c.word_count-end.ensures
    (slot_words _ _ _ c.word_count-end.ensures (sym c.is_up_to.ensures ∙ c.if-not-is_up_to.false) c.requires.0)
    (sym c.is_up_to.ensures ∙ c.if-not-is_up_to.false) (accepted tt) _ c.in-Ok.ensures refl)

pub returns-in-Err : goal.returns-in-Err
returns-in-Err c =
    rw (c.from.ensures, c.default-in-Err.ensures.1.0, c.default-in-Err.ensures.1.1.0, c.default-in-Err.ensures.1.1.1)
    (new-refused _ c.args.lent _ _ _ c.word_count-end.ensures
    (slot_words _ _ _ c.word_count-end.ensures (sym c.is_up_to.ensures ∙ c.if-not-is_up_to.false) c.requires.0)
    (sym c.is_up_to.ensures ∙ c.if-not-is_up_to.false) (refused (number_of c.in-Err.refusal)) _ c.in-Err.ensures (number-positive c.in-Err.refusal))
