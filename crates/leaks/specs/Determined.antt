-- That what the statements of the walk allow is one answer and one place. Assumes nothing.
use Rattle.std.specs.Prelude.{ℕ, List, ◌≡◌, Result, Option}
use Rattle.std.proofs.Common.{sym, ◌∙◌}
use Rattle.refusals.specs.declared.Refusal.{Refusal}
use Rattle.refusals.specs.Refusals.{reply}
use Rattle.refusals.proofs.Refusals.{one_reply, one_outcome}
use Rattle.leaks.specs.Leaks.{Live, leak_on, step_on}

-- Two answers that stand for the same reply are equal.
pub one_leak : (a b : Result (Option Live) Refusal) → reply a ≡ reply b → a ≡ b
one_leak = one_reply

-- So are two that the statement of `live_from` allows,
pub leak_determined : (ws : List ℕ) (address : ℕ) (a b : Result (Option Live) Refusal)
    → reply a ≡ leak_on ws address → reply b ≡ leak_on ws address → a ≡ b
leak_determined ws address a b p q = one_leak a b (p ∙ sym q)

-- and two that the statement of a step allows, in the answer and in the place.
pub step-determined : (ws : List ℕ) (place : ℕ) (a b : Result (Option Live) Refusal) (v u : ℕ)
    → (reply a, v) ≡ step_on ws place → (reply b, u) ≡ step_on ws place → (a ≡ b) × (v ≡ u)
step-determined ws place = one_outcome (step_on ws place)
