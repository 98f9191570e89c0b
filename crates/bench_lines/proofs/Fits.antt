-- A store that is long enough stays so, byte by byte. Assumes nothing.
use Rattle.std.specs.Prelude.{ℕ, suc, ◌≤◌, ◌≡◌, refl, eqb, length, take}
use Rattle.std.proofs.Common.{arith, ap, ◌∙◌, sym, length-take-le}
use mathlib.Core.List.{List, [], ◌∷◌}
use Rattle.std.proofs.Math.Seq.{length_front}
use Rattle.laws.specs.Splice.{splice, splice_front}
use Rattle.laws.specs.Tests.{cond_cases}
use Rattle.table.specs.Layout.{most_words}
use Rattle.call_lines.specs.Reading as reading
use Rattle.bench_step.proofs.Kept.{answered-fits}
use Rattle.bench_lines.specs.Feeding.{Kept, FedKept, has_room, outcome, ended_on, taken_on, fed_from}
use Rattle.bench_lines.specs.declared.Bench.{Bench}

-- Words put first in a store that has room for them leave it as long as it was.
stays_long : (store ws : List ℕ) → length ws ≤ length store → length (splice store 0 ws) ≡ length store
stays_long store ws h = ap length (splice_front store ws) ∙ length_front store ws (length ws) (sym (length-take-le (length ws) store h))

-- the store has as many words as it had, and they are enough for the block at hand
abbrev Stays : List ℕ → Bench → List ℕ → Type 0
Stays first s store = (length store ≡ length first) × (s.lent ≤ length first)

-- ---- one byte

module _ (s : Bench) (b : ℕ) (store out : List ℕ) (m : most_words ≤ length store) (h : s.lent ≤ length store) where
  outcome_fits : length (outcome s store).1 ≤ length store
  outcome_fits =
      answered-fits (length store) m (reading.asked s.line) (take s.lent store) (omega (arith, length-take-le s.lent store h))

  pub taken-stays : Stays store (taken_on s b store out).0 (taken_on s b store out).1
  unfolding taken_on ended_on
  taken-stays =
      cond_cases (λ (k : Kept). Stays store k.0 k.1) (eqb b 10)
      (λ e. (stays_long store (outcome s store).1 outcome_fits, outcome_fits)) (λ e. (refl, h))

-- ---- many bytes

pub fed-stays : (text : List ℕ) (at : ℕ) (k : Kept) → most_words ≤ length k.1 → k.0.lent ≤ length k.1
    → Stays k.1 (fed_from at text k).0.bench (fed_from at text k).1
unfolding fed_from
fed-stays [] at k m h = (refl, h)
fed-stays (b ∷ t) at k m h =
    let n : Kept = taken_on k.0 b k.1 k.2 in
    let one : Stays k.1 n.0 n.1 = taken-stays k.0 b k.1 k.2 m h in
    let all : Stays n.1 (fed_from (suc at) t n).0.bench (fed_from (suc at) t n).1 = fed-stays t (suc at) n (omega arith) (omega arith) in
    cond_cases (λ (r : FedKept). Stays k.1 r.0.bench r.1) (has_room k.0 k.2)
    (λ e. (all.0 ∙ one.0, omega arith)) (λ e. (refl, h))
