-- The walk as a struct that holds the table and its own place. Assumes nothing.
use Rattle.std.specs.Prelude.{ℕ, zero, suc, List, [], ◌∷◌, Option, None, Some}
use Rattle.std.specs.Borrow.{Bor}
use Rattle.laws.specs.Reply.{Reply}
use Rattle.opening.specs.Look.{table_fault}
use Rattle.refusals.specs.declared.Refusal.{Refusal}
use Rattle.refusals.specs.Refusals.{number_of, reply}
use Rattle.leaks.specs.Leaks.{Live, step_on}
use Rattle.leak_walk.specs.declared.Begun.{Begun}
use Rattle.leak_walk.specs.declared.Walk as declared

-- the lent table, the place, and the number that the start is refused with: 0 for nothing
abbrev pub Walk : Type 0
Walk = declared.Walk ℕ

abbrev pub fault_in : Option Refusal → ℕ
fault_in None = 0
fault_in (Some r) = number_of r

-- the code's walk, with its refusal by the paper's number
abbrev pub seen : declared.Walk (Option Refusal) → Walk
seen w = record { words = w.words; place = w.place; fault = fault_in w.fault }

-- a walk starts at address 0
abbrev pub start_of : Bor (List ℕ) → Walk
start_of words = record { words = words; place = 0; fault = table_fault words.now }

-- a step hands out what is found from the place on, and moves the place; what is kept of the start stays, whatever it is
abbrev pub step_of : {F : Type 0} → declared.Walk F → Reply (Option Live) × declared.Walk F
step_of w = ((step_on w.words.now w.place).0, record { words = w.words; place = (step_on w.words.now w.place).1; fault = w.fault })

-- a start and its first step: the fault, what is handed out, and the place after it
abbrev pub begin_of : Bor (List ℕ) → ℕ × (Reply (Option Live) × ℕ)
begin_of words = ((start_of words).fault, ((step_of (start_of words)).0, (step_of (start_of words)).1.place))

abbrev pub begun : Begun → ℕ × (Reply (Option Live) × ℕ)
begun b = (fault_in b.fault, (reply b.leak, b.place))

-- what n steps of the struct answer on an unchanged table
abbrev pub walk_of : {F : Type 0} → declared.Walk F → ℕ → List (Reply (Option Live))
walk_of w zero = []
walk_of w (suc n) = (step_of w).0 ∷ walk_of (step_of w).1 n
