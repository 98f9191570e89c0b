-- The struct's steps answer what steps from a place do, and its start tells what they are refused with. Assumes nothing.
use Rattle.std.specs.Prelude.{ℕ, zero, suc, List, ◌∷◌, ◌↔◌, ◌≢◌, ◌≡◌, refl, Option, None, Some}
use Rattle.std.proofs.Common.{sym, ap}
use Rattle.std.specs.Borrow.{Bor}
use Rattle.laws.specs.Reply.{Reply, refused}
use Rattle.refusals.specs.declared.Refusal.{Refusal}
use Rattle.refusals.proofs.Refusals.{one_refusal, number-positive}
use Rattle.words.specs.Soundness.{Sound}
use Rattle.words.proofs.Checked.{sound-exactly}
use Rattle.opening.specs.Fault.{no_fault, is-fit, unfit}
use Rattle.opening.specs.Look.{table_fault}
use Rattle.opening.specs.Looked.{TableWords, table_exactly}
use Rattle.leaks.specs.Leaks.{Live, leak_on, step_on}
use Rattle.leaks.specs.Walked.{walk_on}
use Rattle.leak_walk.specs.Walks.{Walk, fault_in, seen, start_of, step_of, begin_of, walk_of}
use Rattle.leak_walk.specs.declared.Walk as declared

-- From the start the struct's steps answer what steps from address 0 on do.
pub walk_struct : (words : Bor (List ℕ)) (n : ℕ) → walk_of (start_of words) n ≡ walk_on words.now 0 n
walk_struct words n = go (start_of words) n
  where
    go : (w : Walk) (n : ℕ) → walk_of w n ≡ walk_on w.words.now w.place n
    go w zero = refl
    go w (suc n) = ap (λ (r : List (Reply (Option Live))). (step_of w).0 ∷ r) (go (step_of w).1 n)

-- What a walk begins with is the fault of the words and the step from address 0.
pub begin-steps : (words : Bor (List ℕ)) → begin_of words ≡ (table_fault words.now, step_on words.now 0)
begin-steps words = refl

-- ---- the start

module _ (words : Bor (List ℕ)) where
  abbrev ws : List ℕ
  ws = words.now

  -- A walk starts with fault 0 exactly when the words are a sound table's.
  pub start-0 : (start_of words).fault ≡ 0 ↔ (TableWords ws × Sound ws)
  start-0 = (
    λ e. let h = is-fit ws e in ((table_exactly ws).0 h.0, (sound-exactly ws h.0).0 h.1),
    λ h. let t = (table_exactly ws).1 h.0 in sym (no_fault ws t ((sound-exactly ws t).1 h.1)),
  )

  -- Any other fault is what each step is refused with.
  pub start-refused : (start_of words).fault ≢ 0 → (place : ℕ) → leak_on ws place ≡ refused (start_of words).fault
  unfolding leak_on
  start-refused n place = unfit ws _ n

-- ---- what is seen of the code's walk

one_fault : (a b : Option Refusal) → fault_in a ≡ fault_in b → a ≡ b
one_fault None None e = refl
one_fault None (Some r) e = absurd (number-positive r (sym e))
one_fault (Some r) None e = absurd (number-positive r e)
one_fault (Some r) (Some q) e = ap Some (one_refusal r q e)

-- Two walks of which the same is seen are equal.
pub one_walk : (v w : declared.Walk (Option Refusal)) → seen v ≡ seen w → v ≡ w
one_walk v w e =
    let f = one_fault v.fault w.fault (ap (λ (x : Walk). x.fault) e) in
    λ i. record { words = (e i).words; place = (e i).place; fault = f i }

-- What is seen of the code's walk after a step is the step of what was seen of it.
pub step-seen : (w : declared.Walk (Option Refusal)) → ((step_of w).0, seen (step_of w).1) ≡ step_of (seen w)
step-seen w = refl
