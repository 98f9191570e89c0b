-- What a call answers as a line, and the fault of the words after it. Assumes nothing.
use Rattle.std.proofs.Common.{ℕ, List, ◌≡◌, sym, ap, ◌∙◌}
use Rattle.std.proofs.Math.Option.{some}
use Rattle.laws.specs.Reply.{Reply, accepted, refused, number}
use Rattle.model.specs.Lines.{line}
use Rattle.model.specs.Placing.{Request}
use Rattle.model.specs.Runs.Call.{allocate, free}
use Rattle.sub_allocator.specs.Answers.{Given}
use Rattle.opening.specs.Look.{table_fault}
use Rattle.opening.specs.Questions.{allocated_on}
use Rattle.giving_back.specs.GivingBack.{free_on}
use Rattle.placing.specs.Placing.{allocate_on}
use Rattle.block.specs.Runs.{told, placed_line, changed_line}
use Rattle.bench_step.specs.Step.{fault_told, line_after}
use Rattle.bench_step.proofs.Left.{allocate_left, free_left}

-- what the number of a call tells of the words that it leaves
fault-after : {A : Type 0} (call : Reply A × List ℕ) → table_fault call.1 ≡ fault_told (number call.0)
    → (a : Reply A) (ws' : List ℕ) → (a, ws') ≡ call → (n : ℕ) → n ≡ number a → table_fault ws' ≡ fault_told n
fault-after {A} call left a ws' e n q =
    ap (λ (x : Reply A × List ℕ). table_fault x.1) e ∙ left
    ∙ ap (λ (x : Reply A × List ℕ). fault_told (number x.0)) (sym e) ∙ ap fault_told (sym q)

-- ---- allocate

module _ (ws : List ℕ) (r : Request) (a : Reply Given) (ws' : List ℕ) (e : (a, ws') ≡ allocate_on ws r) where
  pub allocate-fault : (n : ℕ) → n ≡ number a → table_fault ws' ≡ fault_told n
  allocate-fault = fault-after (allocate_on ws r) (allocate_left ws r) a ws' e

  line-told : (some (placed_line (a, ws')), ws') ≡ line_after (allocate r) ws
  line-told = ap (λ (x : Reply Given × List ℕ). (some (placed_line x), x.1)) e

  pub allocate-refused : (m n t : ℕ) → a ≡ refused m → n ≡ number a → t ≡ told (allocated_on ws')
      → (some (line n 0 0 t), ws') ≡ line_after (allocate r) ws
  allocate-refused m n t q p h =
      ap (λ x. (some (line x 0 0 t), ws')) (p ∙ ap number q) ∙ ap (λ x. (some (line m 0 0 x), ws')) h
      ∙ ap (λ (x : Reply Given). (some (placed_line (x, ws')), ws')) (sym q) ∙ line-told

  pub allocate-placed : (o i t : ℕ) → a ≡ accepted record { offset = o; id = i } → t ≡ told (allocated_on ws')
      → (some (line 0 o i t), ws') ≡ line_after (allocate r) ws
  allocate-placed o i t q h =
      ap (λ x. (some (line 0 o i x), ws')) h ∙ ap (λ (x : Reply Given). (some (placed_line (x, ws')), ws')) (sym q) ∙ line-told

-- ---- free

module _ (ws : List ℕ) (id : ℕ) (a : Reply (Unit {0})) (ws' : List ℕ) (e : (a, ws') ≡ free_on ws id) where
  pub free-fault : (n : ℕ) → n ≡ number a → table_fault ws' ≡ fault_told n
  free-fault = fault-after (free_on ws id) (free_left ws id) a ws' e

  pub free-line : (n t : ℕ) → n ≡ number a → t ≡ told (allocated_on ws') → (some (line n 0 0 t), ws') ≡ line_after (free id) ws
  free-line n t q h =
      ap (λ x. (some (line x 0 0 t), ws')) q ∙ ap (λ x. (some (line (number a) 0 0 x), ws')) h
      ∙ ap (λ (x : Reply (Unit {0}) × List ℕ). (some (changed_line x), x.1)) e
