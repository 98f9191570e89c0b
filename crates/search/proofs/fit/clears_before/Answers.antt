-- `search::fit::clears_before` meets its contract. Assumes nothing.
use Rattle.std.proofs.Common.{not, ap, refl, ◌∙◌, arith}
use Rattle.table.specs.Layout.{size_at, first_byte_at, kind_at}
use Rattle.words.proofs.Spots.{used-spot}
use Rattle.words.specs.declared.sound.SoundTable.{SoundTable}
use Rattle.sub_allocator.specs.Requests.{request_of, fault-free}
use Rattle.search.specs.Held.{held_end}
use Rattle.search.proofs.PageWays.{none_before, kinds-before, page_before}
use Rattle.search.proofs.fit.clears_before.Goals as goal

pub returns-in_default : goal.returns-in_default
returns-in_default c = none_before _ _ _ refl (request_of c.args.request.request) _ c.in_default.ensures

pub returns-then-not-has_granularity_conflict : goal.returns-then-not-has_granularity_conflict
returns-then-not-has_granularity_conflict c =
    let b = c.in-Some.before in
    kinds-before _ _ _ c.in-Some.ensures.1 (request_of c.args.request.request) _ (λ z. omega (arith, b.held.0.0)) _
    (c.word-kind.ensures ∙ ap (λ (t : SoundTable). kind_at t.words.now b.slot) c.in-Some.ensures.0) _
    c.has_granularity_conflict.ensures (ap not c.if-not-has_granularity_conflict.true)

pub is_on_same_page-requires-clause-page_size_value : goal.is_on_same_page-requires-clause-page_size_value
is_on_same_page-requires-clause-page_size_value c = (fault-free _ c.args.request.well_formed).2

pub is_on_same_page-requires-clause-size_a_nonzero : goal.is_on_same_page-requires-clause-size_a_nonzero
is_on_same_page-requires-clause-size_a_nonzero c =
    let b = c.in-Some.before in
    held_end (used-spot _ b.table.sound _ b.held) b.table.sound c.word-first.ensures c.word-size.ensures

pub returns : goal.returns
returns c =
    let b = c.in-Some.before in
    page_before _ _ _ c.in-Some.ensures.1 (request_of c.args.request.request) _ (λ z. omega (arith, b.held.0.0)) _
    (c.word-kind.ensures ∙ ap (λ (t : SoundTable). kind_at t.words.now b.slot) c.in-Some.ensures.0) _
    c.has_granularity_conflict.ensures (ap not c.if-not-has_granularity_conflict.false) _ _
    (c.word-first.ensures ∙ ap (λ (t : SoundTable). first_byte_at t.words.now b.slot) c.in-Some.ensures.0)
    (c.word-size.ensures ∙ ap (λ (t : SoundTable). size_at t.words.now b.slot) c.in-Some.ensures.0) _
    c.is_on_same_page.ensures
