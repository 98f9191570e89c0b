-- `search::best::best` meets its contract. Assumes nothing.
use Rattle.std.proofs.Common.{sym, ◌∙◌, arith}
use Rattle.sub_allocator.specs.Requests.{request_of}
use Rattle.search.proofs.Searching.{better-size}
use Rattle.search.proofs.Walking.{start, falls, passed_over, noted, ended}
use Rattle.search.proofs.best.best.Goals as goal

pub loop-next-init : goal.loop-next-init
loop-next-init c = start _ _ _ _ c.first-next.ensures (omega arith) (omega arith)

pub is_better-requires : goal.is_better-requires
is_better-requires c = c.loop-next.invariant.searching.word

pub overflow_sub-spare-then-is_better : goal.overflow_sub-spare-then-is_better
overflow_sub-spare-then-is_better c =
    rw c.word.ensures
    (better-size _ c.in-Some.chunk.table.sound _ _ c.loop-next.best _ (sym c.is_better.ensures ∙ c.if-is_better.true))

pub loop-next-smaller-then-is_better : goal.loop-next-smaller-then-is_better
loop-next-smaller-then-is_better c =
    falls (request_of c.args.request.request) c.in-Some.chunk c.loop-next.best c.loop-next.spare _ c.next-next.ensures c.args.table c.loop-next.next c.in-Some.is
    c.loop-next.invariant.of_table

pub loop-next-preserved-then-is_better : goal.loop-next-preserved-then-is_better
loop-next-preserved-then-is_better c =
    noted _ c.in-Some.chunk c.loop-next.best c.loop-next.spare _ c.next-next.ensures
    (sym c.is_better.ensures ∙ c.if-is_better.true) _ c.word.ensures c.args.table c.loop-next.next c.in-Some.is
    c.loop-next.invariant

pub loop-next-smaller : goal.loop-next-smaller
loop-next-smaller c =
    falls (request_of c.args.request.request) c.in-Some.chunk c.loop-next.best c.loop-next.spare _ c.next-next.ensures c.args.table c.loop-next.next c.in-Some.is
    c.loop-next.invariant.of_table

pub loop-next-preserved : goal.loop-next-preserved
loop-next-preserved c =
    passed_over _ c.in-Some.chunk c.loop-next.best c.loop-next.spare _ c.next-next.ensures
    (sym c.is_better.ensures ∙ c.if-is_better.false) c.args.table c.loop-next.next c.in-Some.is c.loop-next.invariant

pub returns : goal.returns
returns c = ended _ _ _ _ _ c.in_default.is c.loop-next.invariant
