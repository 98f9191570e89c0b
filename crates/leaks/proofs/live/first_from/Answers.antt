-- `leaks::live::first_from` meets its contract. Assumes nothing.
use Rattle.std.proofs.Common.{arith, sym, ap, ◌∙◌}
use Rattle.std.specs.Prelude.{Option}
use Rattle.laws.specs.Reply.{accepted}
use Rattle.table.specs.Layout.{table_shape}
use Rattle.words.proofs.Written.{sound_is_table}
use Rattle.leaks.specs.Leaks.{Live}
use Rattle.leaks.proofs.Finding.{begin, in_slot, falls, met, go_on, ended}
use Rattle.leaks.proofs.live.first_from.Goals as goal

pub head-k-requires : goal.head-k-requires
head-k-requires c = omega (arith, (table_shape _ (sound_is_table _ c.args.table.sound)).2)

pub loop-k-init : goal.loop-k-init
loop-k-init c = begin _ c.args.table.sound _ _ c.head-k.ensures

pub is_from-requires : goal.is_from-requires
is_from-requires c = in_slot _ c.args.table.sound _ _ c.loop-k.invariant c.loop-k-test.true

pub leak_at-requires : goal.leak_at-requires
leak_at-requires c = in_slot _ c.args.table.sound _ _ c.loop-k.invariant c.loop-k-test.true

pub returns-then-is_from : goal.returns-then-is_from
returns-then-is_from c =
    c.leak_at.ensures
    ∙ ap (λ (o : Option Live). accepted o)
    (met _ c.args.table.sound _ _ c.loop-k.invariant c.loop-k-test.true (sym c.is_from.ensures ∙ c.if-is_from.true))

pub word-k-requires : goal.word-k-requires
word-k-requires c = in_slot _ c.args.table.sound _ _ c.loop-k.invariant c.loop-k-test.true

pub loop-k-smaller : goal.loop-k-smaller
loop-k-smaller c = rw c.word-k.ensures (falls _ c.args.table.sound _ _ c.loop-k.invariant c.loop-k-test.true)

pub loop-k-preserved : goal.loop-k-preserved
loop-k-preserved c =
    rw c.word-k.ensures
    (go_on _ c.args.table.sound _ _ c.loop-k.invariant c.loop-k-test.true (sym c.is_from.ensures ∙ c.if-is_from.false))

pub returns : goal.returns
returns c =
    ap (λ (o : Option Live). accepted o) (ended _ c.args.table.sound _ _ c.loop-k.invariant c.loop-k-test.false)
