-- What each look at the words hands out. Assumes nothing.
use Rattle.std.specs.Prelude.{ℕ, true, List, ◌≡◌}
use Rattle.std.proofs.Common.{sym}
use Rattle.laws.specs.Reply.{accepted, refused}
use Rattle.refusals.specs.declared.Refusal.{Refusal}
use Rattle.refusals.specs.Refusals.{number_of}
use Rattle.table.specs.Layout.{is_table}
use Rattle.words.specs.Words.{block_of, sound}
use Rattle.opening.specs.Look.{table_fault}
use Rattle.opening.specs.Fault.{on-block}
use Rattle.opening.proofs.Turned.{turned-away}
use Rattle.leaks.specs.Leaks.{handed_out, live_from, leak_on}

module _ (ws : List ℕ) (address : ℕ) where
  -- Words that are refused are so by their fault.
  pub not_looked : (r : Refusal) → number_of r ≡ table_fault ws → refused (number_of r) ≡ leak_on ws address
  unfolding leak_on
  not_looked r e = turned-away ws _ r e

  -- On a sound table what the search finds is handed out.
  pub handed : is_table ws ≡ true → sound ws ≡ true → accepted (handed_out (live_from address (block_of ws))) ≡ leak_on ws address
  unfolding leak_on
  handed t s = sym (on-block ws _ t s)
