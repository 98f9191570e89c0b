-- `search::fit::clears_after` meets its contract. Assumes nothing.
use Rattle.std.proofs.Common.{not, ap, refl, ◌∙◌, arith}
use Rattle.table.specs.Layout.{first_byte_at, kind_at}
use Rattle.words.specs.declared.sound.SoundTable.{SoundTable}
use Rattle.sub_allocator.specs.Requests.{request_of, fault-free}
use Rattle.search.proofs.PageWays.{none_after, kinds-after, page-after}
use Rattle.search.proofs.fit.clears_after.Goals as goal

pub returns-in_default : goal.returns-in_default
returns-in_default c = none_after _ _ _ refl (request_of c.args.request.request) _ c.in_default.ensures

pub returns-then-not-has_granularity_conflict : goal.returns-then-not-has_granularity_conflict
returns-then-not-has_granularity_conflict c =
    let a = c.in-Some.after in
    kinds-after _ _ _ c.in-Some.ensures.1 (request_of c.args.request.request) _ (λ z. omega (arith, a.held.0.0)) _
    (c.word-kind.ensures ∙ ap (λ (t : SoundTable). kind_at t.words.now a.slot) c.in-Some.ensures.0) _
    c.has_granularity_conflict.ensures (ap not c.if-not-has_granularity_conflict.true)

pub is_on_same_page-requires-clause-page_size_value : goal.is_on_same_page-requires-clause-page_size_value
is_on_same_page-requires-clause-page_size_value c = (fault-free _ c.args.request.well_formed).2

pub is_on_same_page-requires-clause-size_a_nonzero : goal.is_on_same_page-requires-clause-size_a_nonzero
is_on_same_page-requires-clause-size_a_nonzero c =
    let r = fault-free _ c.args.request.well_formed in
    (omega (arith, r.0), c.requires)

pub returns : goal.returns
returns c =
    let a = c.in-Some.after in
    page-after _ _ _ c.in-Some.ensures.1 (request_of c.args.request.request) _ (λ z. omega (arith, a.held.0.0)) _
    (c.word-kind.ensures ∙ ap (λ (t : SoundTable). kind_at t.words.now a.slot) c.in-Some.ensures.0) _
    c.has_granularity_conflict.ensures (ap not c.if-not-has_granularity_conflict.false) _
    (c.word-first.ensures ∙ ap (λ (t : SoundTable). first_byte_at t.words.now a.slot) c.in-Some.ensures.0) _
    c.is_on_same_page.ensures
