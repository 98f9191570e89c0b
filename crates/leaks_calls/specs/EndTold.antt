-- How the end of the walk is told at the boundary. Assumes nothing.
use Rattle.std.specs.Prelude.{ℕ, List, ◌↔◌, ◌≡◌, refl, get_or, Option, None, Some}
use Rattle.std.proofs.Common.{arith, ⊎_elim, sym, ◌∙◌}
use Rattle.laws.specs.Reply.{Reply, accepted, refused, not_refused}
use Rattle.leaks.proofs.Handed.{leak_id}
use Rattle.leaks.specs.Leaks.{Live, step_on}
use Rattle.leaks.specs.Refusals.{leak-refused, step-answers}
use Rattle.leaks_calls.specs.LeaksCalls.{leak_out}

-- the number is 0, and so is the first of the five words
abbrev pub NoChunk : ℕ × ℕ × List ℕ → Type 0
NoChunk out = (out.0 ≡ 0) × (get_or out.2 0 0 ≡ 0)

-- The number 0 with an id of 0 is answered exactly at the end.
pub end-told : (ws : List ℕ) (place : ℕ) → NoChunk (leak_out (step_on ws place)) ↔ (step_on ws place).0 ≡ accepted None
end-told ws place = go (step_on ws place).0 refl
  where
    go : (r : Reply (Option Live)) → (step_on ws place).0 ≡ r → NoChunk (leak_out (r, (step_on ws place).1)) ↔ r ≡ accepted None
    go (accepted None) e = (λ h. refl, λ h. (refl, refl))
    go (accepted (Some l)) e = (
      λ h. absurd (omega (arith, leak_id ws place l (sym (step-answers ws place) ∙ e), h.1)),
      λ h. let z : ◌≡◌ {A = ℕ} 0 1 = cc in absurd (omega arith),
    )
    go (refused n) e = (
      λ h.
          absurd
          (⊎_elim (λ q. omega (arith, h.0)) (λ q. omega (arith, h.0))
          (leak-refused ws place n (sym (step-answers ws place) ∙ e))),
      λ h. absurd (not_refused (sym h)),
    )
