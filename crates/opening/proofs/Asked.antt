-- What each look at the words answers to a question. Assumes nothing.
use Rattle.std.specs.Prelude.{ℕ, ◌≤◌, Bool, true, eqb, List, length, ◌≡◌, refl}
use Rattle.std.proofs.Common.{arith, sym, ap, ◌∙◌}
use Rattle.laws.specs.Reply.{Reply, accepted, refused}
use Rattle.refusals.specs.declared.Refusal.{Refusal}
use Rattle.refusals.specs.Refusals.{number_of}
use Rattle.model.specs.Block.{Block, allocated}
use Rattle.table.specs.Layout.{is_table, allocated_word, table_shape}
use Rattle.words.specs.Words.{Read, not_a_table, unsound, table, sound, decode}
use Rattle.words.proofs.Checked.{sound-exactly}
use Rattle.opening.specs.Look.{on_table, table_fault}
use Rattle.opening.specs.Questions.{allocated_on, is_empty_on}
use Rattle.opening.proofs.Exactly.{allocated-head}
use Rattle.opening.proofs.Turned.{turned-away}
use Rattle.opening.specs.Looked.{table_exactly}

module _ (ws : List ℕ) where
  pub has_head : is_table ws ≡ true → 4 ≤ length ws
  has_head t = let s = table_shape ws t in omega arith

  pub not_looked : (r : Refusal) → number_of r ≡ table_fault ws → refused (number_of r) ≡ allocated_on ws
  unfolding allocated_on
  not_looked = turned-away ws _

  pub the_total : is_table ws ≡ true → sound ws ≡ true → accepted (allocated_word ws) ≡ allocated_on ws
  the_total t s = sym (allocated-head ws ((table_exactly ws).0 t) ((sound-exactly ws t).0 s))

  -- ---- whether the total is 0

  -- a total's answer, told as whether it is 0
  empty : Reply ℕ → Reply Bool
  empty (accepted n) = accepted (eqb n 0)
  empty (refused n) = refused n

  by_total : empty (allocated_on ws) ≡ is_empty_on ws
  unfolding allocated_on is_empty_on empty
  by_total = go (decode ws)
    where
      go : (r : Read) → empty (on_table (λ (b : Block). accepted (allocated b.chunks)) r) ≡ on_table (λ (b : Block). accepted (eqb (allocated b.chunks) 0)) r
      go not_a_table = refl
      go unsound = refl
      go (table b) = refl

  pub empty_refused : (n : ℕ) → refused n ≡ allocated_on ws → refused n ≡ is_empty_on ws
  unfolding empty
  empty_refused n e = ap empty e ∙ by_total

  pub empty_told : (n : ℕ) → accepted n ≡ allocated_on ws → accepted (eqb n 0) ≡ is_empty_on ws
  unfolding empty
  empty_told n e = ap empty e ∙ by_total
