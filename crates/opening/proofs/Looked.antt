-- What a call on a table looks at first, in the paper's words: the word count, then the rules. Assumes nothing.
use Rattle.std.specs.Prelude.{ℕ, ◌≤◌, List, ◌↔◌, ◌⊎◌, ◌≡◌, refl}
use Rattle.std.proofs.Common.{arith, inl, inr, ⊎_elim, sym, ap}
use Rattle.laws.specs.Every.{cases, clash}
use Rattle.laws.specs.Reply.{Reply, refused, number}
use Rattle.model.specs.Block.{Block}
use Rattle.table.specs.Layout.{is_table}
use Rattle.words.specs.Words.{block_of, sound, decode}
use Rattle.words.specs.Soundness.{Sound}
use Rattle.words.proofs.Written.{decode-none, decode-unsound, decode-block}
use Rattle.words.proofs.Checked.{sound-exactly}
use Rattle.opening.specs.Look.{on_table}
use Rattle.opening.specs.Looked.{TableWords, table_exactly}

module _ {A : Type 0} (f : Block → Reply A) (ws : List ℕ) where
  -- What holds of the answer on each of the three kinds of words, those of no table, those of a table that breaks a rule and
  -- those of a sound one, holds of the answer.
  pub looked : (P : Reply A → Type 0) → ((TableWords ws → ⊥) → P (refused 1))
      → (TableWords ws → (Sound ws → ⊥) → P (refused 2)) → (TableWords ws → Sound ws → P (f (block_of ws)))
      → P (on_table f (decode ws))
  looked P f1 f2 whole =
      ⊎_elim
      (λ t.
      let w : TableWords ws = (table_exactly ws).0 t in
      ⊎_elim (λ s. rw (decode-block ws t s) (whole w ((sound-exactly ws t).0 s)))
      (λ s. rw (decode-unsound ws t s) (f2 w (λ h. clash ((sound-exactly ws t).1 h) s)))
      (cases (sound ws)))
      (λ t. rw (decode-none ws t) (f1 (λ w. clash ((table_exactly ws).1 w) t)))
      (cases (is_table ws))

  -- Sound words of a table are answered as the block that they hold.
  pub sound-answered : TableWords ws → Sound ws → on_table f (decode ws) ≡ f (block_of ws)
  sound-answered w s =
      looked (λ r. r ≡ f (block_of ws)) (λ n. absurd (n w)) (λ t n. absurd (n s)) (λ t h. refl)

  -- ---- a call whose own numbers are 3 or more

  module _ (later : (b : Block) (n : ℕ) → f b ≡ refused n → 3 ≤ n) where
    -- 1 exactly when the words are no table's.
    pub call-refused-1 : on_table f (decode ws) ≡ refused 1 ↔ (TableWords ws → ⊥)
    call-refused-1 =
        looked (λ r. r ≡ refused 1 ↔ (TableWords ws → ⊥)) (λ n. (λ e. n, λ n. refl))
        (λ w n. (λ e. absurd (omega (arith, ap number e)), λ n. absurd (n w)))
        (λ w s. (λ e. absurd (omega (arith, later _ _ e)), λ n. absurd (n w)))

    -- 2 exactly when they are a table's, and the table is not sound.
    pub call-refused-2 : on_table f (decode ws) ≡ refused 2 ↔ (TableWords ws × (Sound ws → ⊥))
    call-refused-2 =
        looked (λ r. r ≡ refused 2 ↔ (TableWords ws × (Sound ws → ⊥)))
        (λ n. (λ e. absurd (omega (arith, ap number e)), λ h. absurd (n h.0)))
        (λ w n. (λ e. (w, n), λ h. refl))
        (λ w s. (λ e. absurd (omega (arith, later _ _ e)), λ h. absurd (h.1 s)))

    -- Any other number is the call's own, on the block that sound words hold.
    pub call-refused-later : (n : ℕ) → on_table f (decode ws) ≡ refused n
        → (n ≡ 1) ⊎ ((n ≡ 2) ⊎ (TableWords ws × Sound ws × (f (block_of ws) ≡ refused n)))
    call-refused-later n e =
        looked (λ r. r ≡ refused n → (n ≡ 1) ⊎ ((n ≡ 2) ⊎ (TableWords ws × Sound ws × (f (block_of ws) ≡ refused n))))
        (λ n q. inl (sym (ap number q))) (λ w n q. inr (inl (sym (ap number q)))) (λ w s q. inr (inr (w, s, q))) e
