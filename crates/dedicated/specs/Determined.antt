-- That what a call's statement allows is one answer and one record. Assumes nothing.
use Rattle.std.specs.Prelude.{ℕ, ◌≡◌, Result, Ok, Err}
use Rattle.std.proofs.Common.{sym, ap}
use Rattle.laws.specs.Reply.{Reply, accepted, number, not_refused}
use Rattle.model.specs.Placing.{Request}
use Rattle.refusals.specs.Refusals.{reply}
use Rattle.refusals.specs.declared.Refusal.{Refusal}
use Rattle.refusals.proofs.Refusals.{one_refusal, one_reply, one_outcome}
use Rattle.sub_allocator.specs.Answers.{Given}
use Rattle.dedicated.specs.Dedicated.{Entry, placed, changed, allocate_in, free_in, rename_in}
use Rattle.dedicated.specs.declared.record.DedicatedBlock.{DedicatedBlock}

-- Two answers of `new` that stand for the same reply are equal.
pub one_new : (a b : Result DedicatedBlock Refusal) → reply a ≡ reply b → a ≡ b
one_new = one_reply

-- And two of the report.
pub one_report : (a b : Result Entry Refusal) → reply a ≡ reply b → a ≡ b
one_report = one_reply

module _ (d : DedicatedBlock) where
  -- Two outcomes that the statement of `allocate` allows are equal, in the answer and in the record.
  pub allocate_determined : (r : Request) (a b : Result Given Refusal) (v u : DedicatedBlock)
      → (reply a, v) ≡ allocate_in d r → (reply b, u) ≡ allocate_in d r → (a ≡ b) × (v ≡ u)
  allocate_determined r = one_outcome (allocate_in d r)

  -- So are two that the statement of `free` allows.
  pub free_determined : (id : ℕ) (a b : Result (Unit {0}) Refusal) (v u : DedicatedBlock)
      → (reply a, v) ≡ free_in d id → (reply b, u) ≡ free_in d id → (a ≡ b) × (v ≡ u)
  free_determined id = one_outcome (free_in d id)

  -- And two that the statement of `rename` allows.
  pub rename-determined : (id label : ℕ) (a b : Result (Unit {0}) Refusal) (v u : DedicatedBlock)
      → (reply a, v) ≡ rename_in d id label → (reply b, u) ≡ rename_in d id label → (a ≡ b) × (v ≡ u)
  rename-determined id label = one_outcome (rename_in d id label)

  -- By value, the answer and the record come as one: two that stand for the same are equal.
  pub one_placed : (a b : Result (Given × DedicatedBlock) Refusal) → placed d a ≡ placed d b → a ≡ b
  one_placed (Ok (g, after)) (Ok (h, left)) e =
      let x : ◌≡◌ {A = Reply Given} (accepted g) (accepted h) = ap (λ (x : Reply Given × DedicatedBlock). x.0) e in
      let y : after ≡ left = ap (λ (x : Reply Given × DedicatedBlock). x.1) e in
      cc
  one_placed (Ok p) (Err s) e = absurd (not_refused (ap (λ (x : Reply Given × DedicatedBlock). x.0) e))
  one_placed (Err r) (Ok q) e = absurd (not_refused (sym (ap (λ (x : Reply Given × DedicatedBlock). x.0) e)))
  one_placed (Err r) (Err s) e = ap Err (one_refusal r s (ap (λ (x : Reply Given × DedicatedBlock). number x.0) e))

  -- And of giving back and renaming.
  pub one_changed : (a b : Result DedicatedBlock Refusal) → changed d a ≡ changed d b → a ≡ b
  one_changed (Ok after) (Ok left) e = ap (λ (x : Reply (Unit {0}) × DedicatedBlock). Ok x.1) e
  one_changed (Ok p) (Err s) e = absurd (not_refused (ap (λ (x : Reply (Unit {0}) × DedicatedBlock). x.0) e))
  one_changed (Err r) (Ok q) e = absurd (not_refused (sym (ap (λ (x : Reply (Unit {0}) × DedicatedBlock). x.0) e)))
  one_changed (Err r) (Err s) e = ap Err (one_refusal r s (ap (λ (x : Reply (Unit {0}) × DedicatedBlock). number x.0) e))
