-- What a call answers where the look at the words refuses. Assumes nothing.
use Rattle.std.specs.Prelude.{List, ℕ, ◌≡◌}
use Rattle.std.proofs.Common.{sym, ◌∙◌}
use Rattle.laws.specs.Reply.{Reply, refused}
use Rattle.refusals.specs.declared.Refusal.{Refusal}
use Rattle.refusals.specs.Refusals.{number_of}
use Rattle.refusals.proofs.Refusals.{number-positive}
use Rattle.model.specs.Block.{Block}
use Rattle.words.specs.Words.{decode}
use Rattle.opening.specs.Fault.{unfit}
use Rattle.opening.specs.Look.{on_table, table_fault}

-- A refusal with the number of a fault of the words is what a call on them answers.
pub turned-away : (ws : List ℕ) {A : Type 0} (f : Block → Reply A) (r : Refusal) → number_of r ≡ table_fault ws
    → refused (number_of r) ≡ on_table f (decode ws)
turned-away ws f r e = rw e (sym (unfit ws f (λ z. number-positive r (e ∙ z))))
