-- What each way through one byte keeps. Assumes nothing.
use Rattle.std.proofs.Common.{ℕ, ◌+◌, ◌≤◌, true, List, ◌≡◌, refl, ap, ◌∙◌, leb-true, length, take}
use Rattle.std.proofs.Math.Option.{Option}
use Rattle.laws.specs.Splice.{splice}
use Rattle.model.specs.Lines.{Line as AnswerLine}
use Rattle.call_lines.specs.Format.{Asked}
use Rattle.call_lines.specs.Reading as reading
use Rattle.call_lines.specs.declared.line.Line.{Line}
use Rattle.answer_lines.specs.Printed.{printed, longest}
use Rattle.answer_lines.specs.Stored.{Stored}
use Rattle.bench_step.specs.Step.{answered, stored}
use Rattle.bench_lines.specs.Feeding.{Kept, has_room, outcome, ended_on}
use Rattle.bench_lines.specs.declared.Bench.{Bench}

-- ---- the room

module _ (s : Bench) (out : List ℕ) where
  pub roomy : has_room s out ≡ true → s.used + longest ≤ length out
  unfolding has_room
  roomy e = leb-true (s.used + longest) (length out) e

-- ---- the end of a line

module _ (s : Bench) (store out : List ℕ) where
  -- what is kept of a step
  kept : Option AnswerLine × ℕ × List ℕ → Kept
  kept x = (
    record { line = reading.fresh; lent = x.1; used = s.used + length (printed x.0) },
    x.2,
    splice out s.used (printed x.0),
  )

  kept-is : kept (stored store (outcome s store)) ≡ ended_on s store out
  unfolding ended_on kept
  kept-is = refl

  pub line-ended : (x : Option Asked) → x ≡ reading.asked s.line → (a : Option AnswerLine) (lent used : ℕ) (store' out' : List ℕ) (line : Line)
      → line ≡ reading.fresh → (a, lent, store') ≡ stored store (answered x (take s.lent store))
      → Stored out out' s.used used (printed a) longest
      → (record { line = line; lent = lent; used = used }, store', out') ≡ ended_on s store out
  unfolding kept
  line-ended x q a lent used store' out' line l e w =
      rw (l, w.ends, w.holds)
      (ap kept (e ∙ ap (λ (y : Option Asked). stored store (answered y (take s.lent store))) q) ∙ kept-is)
