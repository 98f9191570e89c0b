-- `bench_lines::feed` meets its contract. Assumes nothing.
use Rattle.std.proofs.Common.{◌≡◌, arith, sym, ap, ◌∙◌}
use Rattle.bench_lines.proofs.Bytes.{roomy}
use Rattle.bench_lines.proofs.Runs.{begins, turn, room-ends, text-ends, none_used, unfit, read-on}
use Rattle.bench_lines.specs.Feeding.{stopped}
use Rattle.bench_lines.proofs.feed.Goals as goal

pub returns-then-not-fits-clause-out_after : goal.returns-then-not-fits-clause-out_after
returns-then-not-fits-clause-out_after c = unfit _ _ _ _ _ _ c.emptied-bench.ensures (sym c.fits.ensures ∙ c.if-not-fits.true)

pub loop-read-init : goal.loop-read-init
loop-read-init c =
    begins _ _ _ _ _ (sym c.fits.ensures ∙ c.if-not-fits.false) (none_used c.args.begun _ _ c.emptied-bench.ensures)

pub returns-then-not-has_room-clause-out_after : goal.returns-then-not-has_room-clause-out_after
returns-then-not-has_room-clause-out_after c =
    read-on _ _ _ _ _ _ c.emptied-bench.ensures (sym c.fits.ensures ∙ c.if-not-fits.false) _
    (room-ends _ _ (_, _, _) (sym c.has_room.ensures ∙ c.if-not-has_room.true) ∙ c.loop-read.invariant.same)

pub taken-bench-requires : goal.taken-bench-requires
taken-bench-requires c = record {
  long = c.loop-read.invariant.long;
  lent = c.loop-read.invariant.lent;
  room = roomy _ _ (sym c.has_room.ensures ∙ c.if-not-has_room.false);
}

pub loop-read-preserved : goal.loop-read-preserved
loop-read-preserved c =
    turn _ _ _ _ _ _ _ c.loop-read.invariant c.loop-read-test.true (sym c.has_room.ensures ∙ c.if-not-has_room.false) _ _ _
    c.taken-bench.ensures c.taken-bench.auto.store c.taken-bench.auto.out

pub returns-clause-out_after : goal.returns-clause-out_after
returns-clause-out_after c =
    let e : c.loop-read.read ≡ c.max.result = omega (arith, c.max.ensures, c.loop-read.invariant.reached) in
    read-on _ _ _ _ _ _ c.emptied-bench.ensures (sym c.fits.ensures ∙ c.if-not-fits.false) _
    (ap (λ n. stopped n (c.loop-read.bench, c.loop-read.store, c.loop-read.out)) (sym e)
    ∙ text-ends _ _ (_, _, _) c.loop-read-test.false ∙ c.loop-read.invariant.same)
