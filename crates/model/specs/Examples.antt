-- Worked examples of the calls, by computing. Assumes nothing.
use Rattle.std.specs.Prelude.{ℕ, ◌-◌, ◌^◌, [], ◌∷◌, ◌≡◌, refl}
use Rattle.std.proofs.Common.{arith, inr}
use Rattle.model.specs.Lines.{line, lines, ask, begin_at}
use Rattle.model.specs.Requests.{WellFormed, Words}
use Rattle.model.specs.Runs.{Call, begin}
use Rattle.model.specs.Runs.Call.{free}

abbrev linear : ℕ → ℕ → Call
linear size alignment = ask size alignment 1 1024 0

abbrev non_linear : ℕ → ℕ → Call
non_linear size alignment = ask size alignment 2 1024 0

-- The paper's ten steps on a block of 4096 bytes with 8 slots; the tenth is three calls.
pub ten_steps_lem :
    lines
    (linear 100 1
    ∷ non_linear 256 64
    ∷ linear 16 16
    ∷ free 2
    ∷ linear 16 1
    ∷ non_linear 100 1
    ∷ free 3
    ∷ free 2
    ∷ free 2
    ∷ linear 0 1
    ∷ linear 1 0
    ∷ linear 1 3
    ∷ [])
    (begin 4096 8)
    ≡ line 0 0 2 100
    ∷ line 0 1024 3 1280
    ∷ line 0 2048 4 2064
    ∷ line 0 0 0 1964
    ∷ line 0 2064 5 1980
    ∷ line 0 0 2 2080
    ∷ line 0 0 0 900
    ∷ line 0 0 0 800
    ∷ line 10 0 0 800
    ∷ line 3 0 0 800
    ∷ line 4 0 0 800
    ∷ line 4 0 0 800
    ∷ []
unfolding lines
ten_steps_lem = refl

-- A fresh block is taken whole under its own id, and one byte more is refused.
pub whole-block : lines (linear 4097 1 ∷ linear 4096 1 ∷ []) (begin 4096 8) ≡ line 7 0 0 0 ∷ line 0 0 1 4096 ∷ []
unfolding lines
whole-block = refl

-- In a table of one slot a split finds none, and the whole block needs none.
pub one_slot_lem : lines (linear 1 1 ∷ linear 4096 1 ∷ []) (begin 4096 1) ≡ line 9 0 0 0 ∷ line 0 0 1 4096 ∷ []
unfolding lines
one_slot_lem = refl

-- With the ids used up a split is refused, and an exact fit is accepted.
pub no_ids : lines (linear 1 1 ∷ linear 4096 1 ∷ []) (begin_at (2 ^ 64 - 1) 4096 8) ≡ line 8 0 0 0 ∷ line 0 0 1 4096 ∷ []
unfolding lines
no_ids = refl

-- The statements on refusals are about something: a request of 64-bit words, and a well-formed one.
pub in_words : Words (record { size = 1; alignment = 2 ^ 63; kind = 2; granularity = 1; label = 0 })
in_words = record { alignment = omega arith; granularity = omega arith }

pub formed_well : WellFormed (record { size = 1; alignment = 2 ^ 63; kind = 2; granularity = 1; label = 0 })
formed_well = record {
  size = omega arith;
  alignment = (63, omega arith, refl);
  granularity = (0, omega arith, refl);
  kind = inr refl;
}
