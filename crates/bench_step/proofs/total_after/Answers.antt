-- `bench_step::total_after` meets its contract. Assumes nothing.
use Rattle.std.proofs.Common.{ℕ, List, Bool, true, false, ◌≤◌, ◌≡◌, arith, cond, length, sym, ap, ◌∙◌}
use Rattle.std.specs.Prelude.{Result, Ok, Err}
use Rattle.refusals.specs.declared.Refusal.{Refusal}
use Rattle.refusals.specs.Refusals.{number_of, fault_of}
use Rattle.refusals.proofs.Refusals.{number-positive}
use Rattle.opening.specs.Look.{table_fault}
use Rattle.opening.specs.Looked.{TableWords, table_exactly}
use Rattle.opening.specs.Fault.{is-fit}
use Rattle.bench_step.specs.Step.{fault_told}
use Rattle.bench_step.proofs.Left.{told-other, total-unfit, total-word}
use Rattle.bench_step.proofs.total_after.Goals as goal
use Rattle.bench_step.proofs.total_after.Goals.{in_default-via-in-Err+else-is_unfit, in_default-via-in_default}

module _ {T : Type 0} (ws : List ℕ) (answer : Result T Refusal) (e : table_fault ws ≡ fault_told (fault_of answer)) where
  -- A refusal tells whether the words are no sound table.
  refused-tells : (r : Refusal) (t u : Bool) → answer ≡ Err r → cond t (number_of r) 0 ≡ fault_told (number_of r) → t ≡ u
      → table_fault ws ≡ cond u (number_of r) 0
  refused-tells r t u q h b = e ∙ ap (λ a. fault_told (fault_of a)) q ∙ sym h ∙ ap (λ v. cond v (number_of r) 0) b

  -- A call that was accepted found one.
  accepted-tells : (x : T) → answer ≡ Ok x → table_fault ws ≡ 0
  accepted-tells x q = e ∙ ap (λ a. fault_told (fault_of a)) q ∙ told-other 0 (λ p. omega arith) (λ p. omega arith)

head-of : (ws : List ℕ) → table_fault ws ≡ 0 → 4 ≤ length ws
head-of ws e = let w : TableWords ws = (table_exactly ws).0 (is-fit ws e).0 in omega (arith, w.2)

pub returns-in-Err : goal.returns-in-Err
returns-in-Err g c =
    total-unfit _ _ (refused-tells _ _ c.requires c.in-Err.refusal _ true c.in-Err.is c.is_unfit.ensures c.if-is_unfit.true) (number-positive c.in-Err.refusal)

pub head-requires : goal.head-requires
head-requires g c =
    let f : table_fault c.args.words.now ≡ 0 = elim c.in_default.branch [
      | in_default-via-in-Err+else-is_unfit w ↦ refused-tells _ _ c.requires w.in-Err.refusal _ false w.in-Err.is w.is_unfit.ensures w.if-is_unfit.false
      | in_default-via-in_default w ↦ accepted-tells _ _ c.requires _ w.in_default.is
    ] in head-of _ f

pub returns-in_default : goal.returns-in_default
returns-in_default g c =
    let f : table_fault c.args.words.now ≡ 0 = elim c.in_default.branch [
      | in_default-via-in-Err+else-is_unfit w ↦ refused-tells _ _ c.requires w.in-Err.refusal _ false w.in-Err.is w.is_unfit.ensures w.if-is_unfit.false
      | in_default-via-in_default w ↦ accepted-tells _ _ c.requires _ w.in_default.is
    ] in c.head.ensures ∙ total-word _ f
