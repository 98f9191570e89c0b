-- What the look at the words tells. Assumes nothing.
use Rattle.std.specs.Prelude.{ℕ, true, false, List, ◌≢◌, ◌≡◌, refl}
use Rattle.std.proofs.Common.{arith}
use Rattle.laws.specs.Reply.{Reply, refused}
use Rattle.laws.specs.Tests.{cond_cases}
use Rattle.model.specs.Block.{Block}
use Rattle.table.specs.Layout.{is_table}
use Rattle.words.specs.Words.{block_of, sound, decode}
use Rattle.words.proofs.Written.{decode-none, decode-unsound, decode-block}
use Rattle.opening.specs.Look.{on_table, table_fault}

module _ (ws : List ℕ) where
  pub no_table : is_table ws ≡ false → 1 ≡ table_fault ws
  unfolding table_fault
  no_table t = rw t

  pub not_sound : is_table ws ≡ true → sound ws ≡ false → 2 ≡ table_fault ws
  unfolding table_fault
  not_sound t s = rw (t, s)

  pub no_fault : is_table ws ≡ true → sound ws ≡ true → 0 ≡ table_fault ws
  unfolding table_fault
  no_fault t s = rw (t, s)

  -- the three ways, each with what it tells of the words
  told : (P : ℕ → Type 0) → (is_table ws ≡ false → P 1) → (is_table ws ≡ true → sound ws ≡ false → P 2)
      → (is_table ws ≡ true → sound ws ≡ true → P 0) → P (table_fault ws)
  unfolding table_fault
  told P f g h = cond_cases P (is_table ws) (λ t. cond_cases P (sound ws) (h t) (g t)) f

  -- No fault: the words are a sound table's.
  pub is-fit : table_fault ws ≡ 0 → (is_table ws ≡ true) × (sound ws ≡ true)
  is-fit =
      told (λ n. n ≡ 0 → (is_table ws ≡ true) × (sound ws ≡ true)) (λ t e. absurd (omega arith)) (λ t s e. absurd (omega arith))
      (λ t s e. (t, s))

  module _ {A : Type 0} (f : Block → Reply A) where
    -- Each fault is what a call on these words answers.
    pub unfit : table_fault ws ≢ 0 → on_table f (decode ws) ≡ refused (table_fault ws)
    unfit =
        told (λ n. n ≢ 0 → on_table f (decode ws) ≡ refused n) (λ t n. rw (decode-none ws t))
        (λ t s n. rw (decode-unsound ws t s)) (λ t s n. absurd (n refl))

    -- Without one the call is answered on the block.
    pub on-block : is_table ws ≡ true → sound ws ≡ true → on_table f (decode ws) ≡ f (block_of ws)
    on-block t s = rw (decode-block ws t s)
