-- When each call is refused, and what it answers otherwise. Assumes nothing.
use Rattle.std.specs.Prelude.{ℕ, ◌≤◌, ◌<◌, true, false, List, ◌↔◌, ◌⊎◌, ◌≡◌, refl}
use Rattle.std.proofs.Common.{arith, inl, inr, ⊎_elim, ◌∙◌, leb-true, le-leb, eqb-true}
use Rattle.std.proofs.Math.Path.{sym, ap}
use Rattle.std.proofs.Math.Dec.{eqb}
use Rattle.laws.specs.Every.{pass, two, clash}
use Rattle.laws.specs.Reply.{Reply, accepted, refused, number, not_refused}
use Rattle.laws.specs.Tests.{either, cond_cases}
use Rattle.model.specs.Block.{Block, allocated, fresh, largest_block}
use Rattle.table.specs.Layout.{is_table, slot_count, allocated_word}
use Rattle.words.specs.Words.{encode, block_of, Read, not_a_table, unsound, table, decode}
use Rattle.words.specs.Checks.{up_to}
use Rattle.words.specs.Soundness.{Sound, live_bytes}
use Rattle.words.proofs.Written.{known}
use Rattle.words.proofs.Checked.{sound-exactly}
use Rattle.opening.specs.Look.{on_table}
use Rattle.opening.specs.Creation.{is_block_size, new_on}
use Rattle.opening.specs.Questions.{allocated_on, is_empty_on}
use Rattle.opening.specs.Looked.{TableWords, table_exactly}
use Rattle.opening.proofs.Looked.{sound-answered, call-refused-1, call-refused-2, call-refused-later}

-- ---- new: when it is refused

size_in : (size : ℕ) → is_block_size size ≡ true → (1 ≤ size) × (size ≤ largest_block)
unfolding up_to
size_in size e = (leb-true _ _ (pass _ 0 e), leb-true _ _ (pass _ 1 e))

size_out : (size : ℕ) → is_block_size size ≡ false → (size ≡ 0) ⊎ (largest_block < size)
unfolding up_to
size_out size e =
    either _ size 1 (λ l. inl (omega arith))
    (λ l. either _ largest_block size inr (λ h. absurd (clash (two _ _ (le-leb 1 size l) (le-leb size largest_block h)) e)))

not_both_sizes : (size : ℕ) → 1 ≤ size → size ≤ largest_block → (size ≡ 0) ⊎ (largest_block < size) → ⊥
not_both_sizes size a b (inl z) = omega arith
not_both_sizes size a b (inr l) = omega arith

module _ (ws : List ℕ) (size : ℕ) where
  -- What holds of each of its three ways, where that way is taken, holds of the call.
  pub new-cases : (P : Reply (Unit {0}) × List ℕ → Type 0) → ((TableWords ws → ⊥) → P (refused 1, ws))
      → (TableWords ws → (size ≡ 0) ⊎ (largest_block < size) → P (refused 13, ws))
      → (TableWords ws → 1 ≤ size → size ≤ largest_block → P (accepted tt, encode (fresh size (slot_count ws))))
      → P (new_on ws size)
  unfolding new_on
  new-cases P f g h =
      cond_cases P (is_table ws)
      (λ t.
      let w : TableWords ws = (table_exactly ws).0 t in
      cond_cases P (is_block_size size) (λ s. h w (size_in size s).0 (size_in size s).1) (λ s. g w (size_out size s)))
      (λ t. f (λ w. clash ((table_exactly ws).1 w) t))

  -- 1 exactly when the word count is not 4 + 7s.
  pub new-refused-1 : (new_on ws size).0 ≡ refused 1 ↔ (TableWords ws → ⊥)
  new-refused-1 =
      new-cases (λ r. r.0 ≡ refused 1 ↔ (TableWords ws → ⊥)) (λ n. (λ e. n, λ n. refl))
      (λ w s. (λ e. absurd (omega (arith, ap number e)), λ n. absurd (n w)))
      (λ w a b. (λ e. absurd (not_refused e), λ n. absurd (n w)))

  -- 13 exactly when it is, and the block size is 0 or above 2^40.
  pub new-refused-13 : (new_on ws size).0 ≡ refused 13 ↔ (TableWords ws × ((size ≡ 0) ⊎ (largest_block < size)))
  new-refused-13 =
      new-cases (λ r. r.0 ≡ refused 13 ↔ (TableWords ws × ((size ≡ 0) ⊎ (largest_block < size))))
      (λ n. (λ e. absurd (omega (arith, ap number e)), λ h. absurd (n h.0)))
      (λ w s. (λ e. (w, s), λ h. refl))
      (λ w a b. (λ e. absurd (not_refused e), λ h. absurd (not_both_sizes size a b h.1)))

  -- Accepted exactly otherwise.
  pub new-accepted : (new_on ws size).0 ≡ accepted tt ↔ (TableWords ws × (1 ≤ size) × (size ≤ largest_block))
  new-accepted =
      new-cases (λ r. r.0 ≡ accepted tt ↔ (TableWords ws × (1 ≤ size) × (size ≤ largest_block)))
      (λ n. (λ e. absurd (not_refused (sym e)), λ h. absurd (n h.0)))
      (λ w s. (λ e. absurd (not_refused (sym e)), λ h. absurd (not_both_sizes size h.1 h.2 s)))
      (λ w a b. (λ e. (w, a, b), λ h. refl))

  -- No other number is given, and every refusal keeps the words.
  pub new-refused : (n : ℕ) → (new_on ws size).0 ≡ refused n → ((n ≡ 1) ⊎ (n ≡ 13)) × ((new_on ws size).1 ≡ ws)
  new-refused n e =
      new-cases (λ r. r.0 ≡ refused n → ((n ≡ 1) ⊎ (n ≡ 13)) × (r.1 ≡ ws))
      (λ t q. (inl (sym (ap number q)), refl)) (λ w s q. (inr (sym (ap number q)), refl))
      (λ w a b q. absurd (not_refused q)) e

-- ---- a question: when it is refused

module _ {A : Type 0} (f : Block → A) (ws : List ℕ) where
  never : (b : Block) (n : ℕ) → accepted (f b) ≡ refused n → 3 ≤ n
  never b n e = absurd (not_refused e)

  -- A question gives 1 exactly when the word count is not 4 + 7s.
  pub asked-refused-1 : on_table (λ b. accepted (f b)) (decode ws) ≡ refused 1 ↔ (TableWords ws → ⊥)
  asked-refused-1 = call-refused-1 _ ws never

  -- It gives 2 exactly when it is, and the table is not sound.
  pub asked-refused-2 : on_table (λ b. accepted (f b)) (decode ws) ≡ refused 2 ↔ (TableWords ws × (Sound ws → ⊥))
  asked-refused-2 = call-refused-2 _ ws never

  -- It gives no other number.
  pub asked-refused : (n : ℕ) → on_table (λ b. accepted (f b)) (decode ws) ≡ refused n → (n ≡ 1) ⊎ (n ≡ 2)
  asked-refused n e =
      ⊎_elim inl (⊎_elim inr (λ h. absurd (not_refused h.2)))
      (call-refused-later (λ b. accepted (f b)) ws never n e)

-- ---- allocated and is_empty: when they are refused

module _ (ws : List ℕ) where
  -- `allocated` gives 1 exactly when the word count is not 4 + 7s.
  pub allocated-refused-1 : allocated_on ws ≡ refused 1 ↔ (TableWords ws → ⊥)
  unfolding allocated_on
  allocated-refused-1 = asked-refused-1 (λ b. allocated b.chunks) ws

  -- So does `is_empty`.
  pub empty-refused-1 : is_empty_on ws ≡ refused 1 ↔ (TableWords ws → ⊥)
  unfolding is_empty_on
  empty-refused-1 = asked-refused-1 (λ b. eqb (allocated b.chunks) 0) ws

  -- `allocated` gives 2 exactly when it is, and the table is not sound.
  pub allocated-refused-2 : allocated_on ws ≡ refused 2 ↔ (TableWords ws × (Sound ws → ⊥))
  unfolding allocated_on
  allocated-refused-2 = asked-refused-2 (λ b. allocated b.chunks) ws

  -- So does `is_empty`.
  pub empty-refused-2 : is_empty_on ws ≡ refused 2 ↔ (TableWords ws × (Sound ws → ⊥))
  unfolding is_empty_on
  empty-refused-2 = asked-refused-2 (λ b. eqb (allocated b.chunks) 0) ws

  -- No other number is given by `allocated`.
  pub allocated-refused : (n : ℕ) → allocated_on ws ≡ refused n → (n ≡ 1) ⊎ (n ≡ 2)
  unfolding allocated_on
  allocated-refused = asked-refused (λ b. allocated b.chunks) ws

  -- Nor by `is_empty`.
  pub empty-refused : (n : ℕ) → is_empty_on ws ≡ refused n → (n ≡ 1) ⊎ (n ≡ 2)
  unfolding is_empty_on
  empty-refused = asked-refused (λ b. eqb (allocated b.chunks) 0) ws

-- ---- allocated and is_empty: what they answer

module _ (ws : List ℕ) (w : TableWords ws) (s : Sound ws) where
  live-bytes : allocated (block_of ws).chunks ≡ live_bytes ws s.walk
  unfolding block_of
  live-bytes =
      let t = (table_exactly ws).1 w in
      sym (known ws ((sound-exactly ws t).1 s)).allocated ∙ s.allocated

  -- On a sound table `allocated` answers the sum of the live sizes along the walk.
  pub allocated-sum : allocated_on ws ≡ accepted (live_bytes ws s.walk)
  unfolding allocated_on
  allocated-sum = sound-answered _ ws w s ∙ ap accepted live-bytes

  -- Which is what the head has.
  pub allocated-head : allocated_on ws ≡ accepted (allocated_word ws)
  allocated-head = allocated-sum ∙ ap accepted (sym s.allocated)

  -- And `is_empty` whether that is 0.
  pub empty-sum : is_empty_on ws ≡ accepted (eqb (live_bytes ws s.walk) 0)
  unfolding is_empty_on
  empty-sum = sound-answered _ ws w s ∙ ap (λ (n : ℕ). accepted (eqb n 0)) live-bytes

-- `is_empty` answers yes exactly when `allocated` answers 0.
pub empty_exactly : (ws : List ℕ) → is_empty_on ws ≡ accepted true ↔ allocated_on ws ≡ accepted 0
unfolding is_empty_on allocated_on
empty_exactly ws = go (decode ws)
  where
    go : (r : Read) → on_table (λ b. accepted (eqb (allocated b.chunks) 0)) r ≡ accepted true
        ↔ on_table (λ b. accepted (allocated b.chunks)) r ≡ accepted 0
    go not_a_table = (λ e. absurd (not_refused (sym e)), λ e. absurd (not_refused (sym e)))
    go unsound = (λ e. absurd (not_refused (sym e)), λ e. absurd (not_refused (sym e)))
    go (table b) = (
      λ e. let z : eqb (allocated b.chunks) 0 ≡ true = cc in ap accepted (eqb-true _ _ z),
      λ e. let z : allocated b.chunks ≡ 0 = cc in ap (λ (n : ℕ). accepted (eqb n 0)) z,
    )
