-- That what a call's statement allows is one answer and one run of words. Assumes nothing.
use Rattle.std.specs.Prelude.{ℕ, List, Result, ◌≡◌}
use Rattle.std.proofs.Common.{sym, ap, ◌∙◌}
use Rattle.laws.specs.Reply.{Reply}
use Rattle.refusals.specs.declared.Refusal.{Refusal}
use Rattle.refusals.specs.Refusals.{reply}
use Rattle.refusals.proofs.Refusals.{one_outcome}
use Rattle.model.specs.Placing.{Request}
use Rattle.sub_allocator.specs.Answers.{Given}
use Rattle.placing.specs.Placing.{allocate_on}
use Rattle.giving_back.specs.GivingBack.{free_on, rename_on}

-- Two outcomes that the statement of `allocate` allows are equal, in the answer and in every word.
pub allocate_determined : (ws : List ℕ) (r : Request) (a b : Result Given Refusal) (vs us : List ℕ)
    → (reply a, vs) ≡ allocate_on ws r → (reply b, us) ≡ allocate_on ws r → (a ≡ b) × (vs ≡ us)
allocate_determined ws r = one_outcome (allocate_on ws r)

-- So are two that the statement of `free` allows.
pub free_determined : (ws : List ℕ) (id : ℕ) (a b : Result (Unit {0}) Refusal) (vs us : List ℕ)
    → (reply a, vs) ≡ free_on ws id → (reply b, us) ≡ free_on ws id → (a ≡ b) × (vs ≡ us)
free_determined ws id = one_outcome (free_on ws id)

-- And two that the statement of `rename` allows.
pub rename-determined : (ws : List ℕ) (id label : ℕ) (a b : Result (Unit {0}) Refusal) (vs us : List ℕ)
    → (reply a, vs) ≡ rename_on ws id label → (reply b, us) ≡ rename_on ws id label → (a ≡ b) × (vs ≡ us)
rename-determined ws id label = one_outcome (rename_on ws id label)

-- Of any answers that stand for replies one to one: a statement that gives the reply and what is left allows one answer and one thing left.
pub one_outcome_of : {C B W : Type 0} (reply : C → Reply B) → ((a b : C) → reply a ≡ reply b → a ≡ b)
    → (call : Reply B × W) (a b : C) (v u : W) → (reply a, v) ≡ call → (reply b, u) ≡ call → (a ≡ b) × (v ≡ u)
one_outcome_of reply one call a b v u p q =
    let e = p ∙ sym q in
    (one a b (ap (λ (x : Reply _ × _). x.0) e), ap (λ (x : Reply _ × _). x.1) e)
