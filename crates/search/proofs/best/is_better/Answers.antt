-- `search::best::is_better` meets its contract. Assumes nothing.
use Rattle.std.proofs.Common.{sym, refl, ◌∙◌, arith, eqb-true}
use Rattle.std.proofs.lemmas.Bool.{eqb-false}
use Rattle.sub_allocator.specs.Requests.{request_of}
use Rattle.search.proofs.BetterWays.{out_of_range, not_free, if-fits}
use Rattle.search.proofs.best.is_better.Goals as goal

pub returns-then-spare-over : goal.returns-then-spare-over
returns-then-spare-over c =
    out_of_range _ _ (request_of c.args.request.request) _ _ c.requires _ c.word.ensures c.word.type_inv refl (omega (arith, c.if-spare-over.true))

pub returns-then-not-is_free : goal.returns-then-not-is_free
returns-then-not-is_free c =
    not_free _ _ (request_of c.args.request.request) _ _ c.requires _ c.word.ensures c.word.type_inv refl
    (eqb-false _ _ (sym c.is_free.ensures ∙ c.if-not-is_free.true))

pub returns : goal.returns
returns c =
    if-fits _ _ (request_of c.args.request.request) _ _ c.requires _ c.word.ensures c.word.type_inv refl
    (omega (arith, c.if-spare-over.false)) (eqb-true _ _ (sym c.is_free.ensures ∙ c.if-not-is_free.false)) _ c.fits.ensures
