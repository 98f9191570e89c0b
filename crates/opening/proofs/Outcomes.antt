-- What any call on a table comes to, from what it answers on a block. Assumes nothing.
use Rattle.std.specs.Prelude.{ℕ, ◌≤◌, List, ◌↔◌, ◌≡◌, refl}
use Rattle.std.proofs.Common.{arith, ⊎_elim, sym, ap, ◌∙◌}
use Rattle.std.proofs.Math.Logic.Iff
use Rattle.laws.specs.Reply.{Reply, accepted, refused, number, not_refused}
use Rattle.model.specs.Block.{Block}
use Rattle.words.specs.Words.{encode, block_of, Read, not_a_table, unsound, table, decode}
use Rattle.words.specs.Soundness.{Sound}
use Rattle.words.proofs.Written.{decode-table}
use Rattle.words.proofs.Checked.{sound-exactly}
use Rattle.opening.specs.Look.{on_table}
use Rattle.opening.specs.Calls.{leaves}
use Rattle.opening.specs.Looked.{TableWords, table_exactly}
use Rattle.opening.proofs.Looked.{sound-answered, call-refused-1, call-refused-2, call-refused-later}

module _ {A B : Type 0} (tells : A → B) (after : A → Block) (ws : List ℕ) where
  -- A refusal is told as it is.
  pub told-refused : (a : Reply A) (n : ℕ) → (leaves tells after ws a).0 ≡ refused n ↔ a ≡ refused n
  told-refused (accepted x) n = (λ e. absurd (not_refused e), λ e. absurd (not_refused e))
  told-refused (refused m) n = (λ e. ap refused (ap number e), λ e. ap refused (ap number e))

  -- It keeps the words.
  kept-refused : (a : Reply A) (n : ℕ) → (leaves tells after ws a).0 ≡ refused n → (leaves tells after ws a).1 ≡ ws
  kept-refused (accepted x) n e = absurd (not_refused e)
  kept-refused (refused m) n e = refl

  -- What is told as accepted was, and the words after it are those of the block that it leaves.
  told-accepted : (a : Reply A) (y : B) → (leaves tells after ws a).0 ≡ accepted y
      → (x : A) × (a ≡ accepted x) × (tells x ≡ y) × ((leaves tells after ws a).1 ≡ encode (after x))
  told-accepted (accepted x) y e = let q : tells x ≡ y = cc in (x, refl, q, refl)
  told-accepted (refused m) y e = absurd (not_refused (sym e))

module _ {A : Type 0} (f : Block → Reply A) (ws : List ℕ) where
  -- What is accepted is the words of a sound table, answered as the block that they hold.
  pub call-accepted : (x : A) → on_table f (decode ws) ≡ accepted x
      → TableWords ws × Sound ws × (f (block_of ws) ≡ accepted x)
  call-accepted x = on (decode ws) refl
    where
      on : (d : Read) → decode ws ≡ d → on_table f d ≡ accepted x → TableWords ws × Sound ws × (f (block_of ws) ≡ accepted x)
      on not_a_table q e = absurd (not_refused (sym e))
      on unsound q e = absurd (not_refused (sym e))
      on (table b) q e =
          let d = decode-table ws b q in
          ((table_exactly ws).0 d.0, (sound-exactly ws d.0).0 d.1, ap f d.2 ∙ e)

module _ {A B : Type 0} (tells : A → B) (after : A → Block) (f : Block → Reply A) (ws : List ℕ) where
  -- the call
  abbrev outcome : Reply B × List ℕ
  outcome = leaves tells after ws (on_table f (decode ws))

  -- Every refusal keeps the words.
  pub outcome-kept : (n : ℕ) → outcome.0 ≡ refused n → outcome.1 ≡ ws
  outcome-kept = kept-refused tells after ws (on_table f (decode ws))

  -- An accepted call told what it came to on the block that a sound table holds, and its words are those of the block
  -- that it leaves.
  pub outcome-accepted : (y : B) → outcome.0 ≡ accepted y → TableWords ws × Sound ws
      × ((x : A) × (f (block_of ws) ≡ accepted x) × (tells x ≡ y) × (outcome.1 ≡ encode (after x)))
  outcome-accepted y e =
      let a = told-accepted tells after ws (on_table f (decode ws)) y e in
      let c = call-accepted f ws a.0 a.1 in
      (c.0, c.1, (a.0, c.2, a.2, a.3))

  -- ---- a call whose own numbers are 3 or more

  module _ (later : (b : Block) (n : ℕ) → f b ≡ refused n → 3 ≤ n) where
    -- 1 exactly when the word count is not 4 + 7s.
    pub outcome-1 : outcome.0 ≡ refused 1 ↔ (TableWords ws → ⊥)
    outcome-1 = Iff.trans (told-refused tells after ws _ 1) (call-refused-1 f ws later)

    -- 2 exactly when it is, and the table is not sound.
    pub outcome-2 : outcome.0 ≡ refused 2 ↔ (TableWords ws × (Sound ws → ⊥))
    outcome-2 = Iff.trans (told-refused tells after ws _ 2) (call-refused-2 f ws later)

    -- Any other number exactly when the table is sound, and the block that it holds is answered so.
    pub outcome-later : (n : ℕ) → 3 ≤ n → {X : Type 0}
        → (TableWords ws → Sound ws → f (block_of ws) ≡ refused n ↔ X)
        → outcome.0 ≡ refused n ↔ (TableWords ws × Sound ws × X)
    outcome-later n l x = (
      λ e.
          ⊎_elim (λ q. absurd (omega arith))
          (⊎_elim (λ q. absurd (omega arith)) (λ h. (h.0, h.1, (x h.0 h.1).0 h.2)))
          (call-refused-later f ws later n ((told-refused tells after ws _ n).0 e)),
      λ h. (told-refused tells after ws _ n).1 (sound-answered f ws h.0 h.1 ∙ (x h.0 h.1).1 h.2),
    )

    -- No other numbers than 1, 2 and the call's own are given.
    pub outcome-range : (P : ℕ → Type 0) → P 1 → P 2 → ((n : ℕ) → f (block_of ws) ≡ refused n → P n)
        → (n : ℕ) → outcome.0 ≡ refused n → P n
    outcome-range P one two own n e =
        ⊎_elim (λ q. rw q one) (⊎_elim (λ q. rw q two) (λ h. own n h.2))
        (call-refused-later f ws later n ((told-refused tells after ws _ n).0 e))
