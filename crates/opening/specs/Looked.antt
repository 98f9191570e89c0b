-- The word count that a call looks at first, in the paper's words. Assumes nothing.
use Rattle.std.specs.Prelude.{ℕ, ◌≤◌, true, List, ◌↔◌, ◌≡◌, length}
use Rattle.std.proofs.Common.{⊎_elim}
use Rattle.laws.specs.Every.{cases}
use Rattle.table.specs.Layout.{word_count, slot_count, most_slots, is_table, table_shape}
use Rattle.words.proofs.Written.{decode-none, not_a_table_lem}

-- the word count is 4 + 7s, s from 1 to 512
abbrev pub TableWords : List ℕ → Type 0
TableWords ws = (s : ℕ) × (1 ≤ s) × (s ≤ most_slots) × (length ws ≡ word_count s)

-- The test of the word count passes exactly where it is such a number.
pub table_exactly : (ws : List ℕ) → is_table ws ≡ true ↔ TableWords ws
table_exactly ws = (
  λ t. let h = table_shape ws t in (slot_count ws, h.0, h.1, h.2),
  λ w.
      ⊎_elim (λ t. t) (λ f. absurd ((not_a_table_lem ws).0 (decode-none ws f) w.0 w.1 w.2 w.3))
      (cases (is_table ws)),
)
