-- `walking::walk` meets its contract. Assumes nothing.
use Rattle.std.proofs.Common.{sym, ◌∙◌, arith}
use Rattle.walking.proofs.Turns.{ending, first-turn, is_slot, bad-links, bad-id, known-id, bad-size, bad_kind, Passed, exactly, next-turn, live-fits, last_turn}
use Rattle.walking.proofs.walk.Goals.{In_ok-live}
use Rattle.walking.proofs.walk.Goals as goal

pub loop-table-init : goal.loop-table-init
loop-table-init c = rw (c.start-at.ensures, c.head.ensures) (first-turn _ _ c.new-buckets.ensures.long c.new-buckets.ensures.zero)

pub returns-then-not-links_ok : goal.returns-then-not-links_ok
returns-then-not-links_ok c =
    bad-links c.loop-table.invariant (is_slot _ _ _ _ c.slot_count-s.ensures c.is_up_to.ensures c.loop-table-test.true)
    (sym c.links_ok.ensures ∙ c.if-not-links_ok.true)

pub returns-then-not-is_up_to : goal.returns-then-not-is_up_to
returns-then-not-is_up_to c =
    bad-id c.loop-table.invariant (is_slot _ _ _ _ c.slot_count-s.ensures c.is_up_to.ensures c.loop-table-test.true)
    (rw (← c.word.ensures, ← c.head-top.ensures) (sym c.is_up_to-in-loop-table.ensures ∙ c.if-not-is_up_to.true))

pub enter-requires : goal.enter-requires
enter-requires c =
    let turn = c.loop-table.invariant in (
      turn.within,
      ending turn c.requires.0,
      is_slot _ _ _ _ c.slot_count-s.ensures c.is_up_to.ensures c.loop-table-test.true,
    )

pub returns-then-not-enter : goal.returns-then-not-enter
returns-then-not-enter c =
    known-id c.loop-table.invariant c.requires.0
    (is_slot _ _ _ _ c.slot_count-s.ensures c.is_up_to.ensures c.loop-table-test.true)
    (sym c.enter.ensures.value ∙ c.if-not-enter.true)

pub returns-then-end-at : goal.returns-then-end-at
returns-then-end-at c =
    bad-size c.loop-table.invariant c.wrapping_add_u64-end.result (omega (arith, c.type_inv.w 0))
    (is_slot _ _ _ _ c.slot_count-s.ensures c.is_up_to.ensures c.loop-table-test.true)
    (rw (← c.word-in-loop-table.ensures) c.wrapping_add_u64-end.ensures.value) c.if-end-at.true

pub returns-in_err-live : goal.returns-in_err-live
returns-in_err-live c =
    c.from_residual.ensures
    ∙ bad_kind c.loop-table.invariant (is_slot _ _ _ _ c.slot_count-s.ensures c.is_up_to.ensures c.loop-table-test.true)
    (sym c.live_bytes.ensures ∙ c.in_err-live.was)

passed : (c : In_ok-live) → Passed c.loop-table.invariant c.wrapping_add_u64-end.result c.in_ok-live.live
passed c = record {
  table = c.requires.0;
  word = rw (← c.word-in-loop-table.ensures) c.word-in-loop-table.type_inv;
  slot = is_slot _ _ _ _ c.slot_count-s.ensures c.is_up_to.ensures c.loop-table-test.true;
  links = sym c.links_ok.ensures ∙ c.if-not-links_ok.false;
  id = rw (← c.word.ensures, ← c.head-top.ensures) (sym c.is_up_to-in-loop-table.ensures ∙ c.if-not-is_up_to.false);
  new = sym c.enter.ensures.value ∙ c.if-not-enter.false;
  wraps = rw (← c.word-in-loop-table.ensures) c.wrapping_add_u64-end.ensures.value;
  rises = c.if-end-at.false;
  adds = sym c.live_bytes.ensures ∙ c.in_ok-live.was;
}

pub overflow_add-at : goal.overflow_add-at
overflow_add-at c =
    let all = passed (goal.at.overflow_add-at c).In_ok-live in
    omega (arith, live-fits _ all, exactly _ all, all.wraps)

pub loop-table-preserved : goal.loop-table-preserved
loop-table-preserved c =
    let all = passed (goal.at.loop-table-preserved c).In_ok-live in
    rw (c.word-in-loop-table-2.ensures, c.word-in-loop-table-3.ensures, c.enter.ensures.after (c.enter.ensures.value ∙ all.new)) (next-turn _ all)

pub returns : goal.returns
returns c = c.end.ensures ∙ last_turn c.loop-table.invariant _ c.slot_count-s.ensures (sym c.is_up_to.ensures ∙ c.loop-table-test.false)
