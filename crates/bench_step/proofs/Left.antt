-- What the number of a call tells of the words that it leaves. Assumes nothing.
use Rattle.std.proofs.Common.{ℕ, arith, List, ⊎_elim, ◌≡◌, refl, sym, ap, ◌∙◌, ne_eqb}
use Rattle.std.specs.Prelude.{◌↔◌, ◌≢◌}
use Rattle.laws.specs.Every.{cases}
use Rattle.laws.specs.Reply.{Reply, accepted, refused, number}
use Rattle.model.specs.Block.{allocated}
use Rattle.model.specs.Placing.{Request}
use Rattle.table.specs.Layout.{is_table, allocated_word}
use Rattle.words.proofs.Checked.{sound-exactly}
use Rattle.words.specs.Soundness.{Sound}
use Rattle.words.specs.Words.{sound}
use Rattle.opening.proofs.Exactly.{allocated-head}
use Rattle.opening.specs.Fault.{no_table, not_sound, no_fault, is-fit, unfit}
use Rattle.opening.specs.Look.{table_fault}
use Rattle.opening.specs.Looked.{TableWords, table_exactly}
use Rattle.opening.proofs.Looked.{looked}
use Rattle.opening.specs.Questions.{allocated_on}
use Rattle.giving_back.specs.GivingBack.{free_on}
use Rattle.block.proofs.KeptOnWords.{allocate-sound, free-sound}
use Rattle.placing.specs.Placing.{allocate_on}
use Rattle.block.proofs.Refused.{allocate-refused-keeps, allocate-refused-1, allocate-refused-2, free-refused-keeps, free-refused-1, free-refused-2}
use Rattle.block.specs.Runs.{told}
use Rattle.bench_step.specs.Step.{fault_told}

-- ---- the fault of words

module _ (ws : List ℕ) where
  fault-1 : (TableWords ws → ⊥) → table_fault ws ≡ 1
  fault-1 n = sym (no_table ws (⊎_elim (λ t. absurd (n ((table_exactly ws).0 t))) (λ f. f) (cases (is_table ws))))

  fault-2 : TableWords ws → (Sound ws → ⊥) → table_fault ws ≡ 2
  fault-2 w n =
      let t = (table_exactly ws).1 w in
      sym (not_sound ws t (⊎_elim (λ s. absurd (n ((sound-exactly ws t).0 s))) (λ f. f) (cases (sound ws))))

  fault-0 : TableWords ws → Sound ws → table_fault ws ≡ 0
  fault-0 w s =
      let t = (table_exactly ws).1 w in
      sym (no_fault ws t ((sound-exactly ws t).1 s))

-- ---- what a number tells of it

pub told-1 : fault_told 1 ≡ 1
unfolding fault_told
told-1 = refl

pub told-2 : fault_told 2 ≡ 2
unfolding fault_told
told-2 = refl

pub told-other : (n : ℕ) → n ≢ 1 → n ≢ 2 → fault_told n ≡ 0
unfolding fault_told
told-other n p q = rw (ne_eqb n 1 p, ne_eqb n 2 q)

-- a call that gives 1 and 2 as it should, keeps the words where it is refused, and leaves a sound table sound
module _ {A : Type 0} (a : Reply A) (ws ws' : List ℕ)
    (one : a ≡ refused 1 ↔ (TableWords ws → ⊥)) (two : a ≡ refused 2 ↔ (TableWords ws × (Sound ws → ⊥)))
    (keeps : (n : ℕ) → a ≡ refused n → ws' ≡ ws)
    (sound-after : TableWords ws → Sound ws → TableWords ws' × Sound ws') where
  -- its own numbers are others
  own : TableWords ws → Sound ws → (b : Reply A) → a ≡ b → fault_told (number b) ≡ 0
  own w s (accepted x) e = told-other 0 (λ q. omega arith) (λ q. omega arith)
  own w s (refused n) e =
      told-other n (λ q. one.0 (e ∙ ap refused q) w) (λ q. (two.0 (e ∙ ap refused q)).1 s)

  pub left : table_fault ws' ≡ fault_told (number a)
  left =
      looked (λ b. accepted b) ws (λ r. table_fault ws' ≡ fault_told (number a))
      (λ n.
      let e = one.1 n in
      ap table_fault (keeps 1 e) ∙ fault-1 ws n ∙ sym told-1 ∙ ap fault_told (sym (ap number e)))
      (λ w n.
      let e = two.1 (w, n) in
      ap table_fault (keeps 2 e) ∙ fault-2 ws w n ∙ sym told-2 ∙ ap fault_told (sym (ap number e)))
      (λ w s. let k = sound-after w s in fault-0 ws' k.0 k.1 ∙ sym (own w s a refl))

pub allocate_left : (ws : List ℕ) (r : Request) → table_fault (allocate_on ws r).1 ≡ fault_told (number (allocate_on ws r).0)
allocate_left ws r =
    left (allocate_on ws r).0 ws (allocate_on ws r).1 (allocate-refused-1 ws r) (allocate-refused-2 ws r) (allocate-refused-keeps ws r)
    (allocate-sound r ws)

pub free_left : (ws : List ℕ) (id : ℕ) → table_fault (free_on ws id).1 ≡ fault_told (number (free_on ws id).0)
free_left ws id =
    left (free_on ws id).0 ws (free_on ws id).1 (free-refused-1 ws id) (free-refused-2 ws id) (free-refused-keeps ws id)
    (free-sound id ws)

-- ---- the bytes allocated

module _ (ws : List ℕ) where
  -- none are told of words with a fault
  pub total-unfit : (n : ℕ) → table_fault ws ≡ n → n ≢ 0 → 0 ≡ told (allocated_on ws)
  unfolding allocated_on
  total-unfit n e d = sym (ap told (unfit ws (λ b. accepted (allocated b.chunks)) (λ q. d (sym e ∙ q))))

  -- else those that the head has
  pub total-word : table_fault ws ≡ 0 → allocated_word ws ≡ told (allocated_on ws)
  total-word e =
      let f = is-fit ws e in
      let w = (table_exactly ws).0 f.0 in
      let s = (sound-exactly ws f.0).0 f.1 in
      sym (ap told (allocated-head ws w s))
