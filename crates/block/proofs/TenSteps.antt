-- The paper's examples as runs on words, by computing: calls in, a line for each and every word out. Theorems. Assumes nothing.
use Rattle.std.specs.Prelude.{ℕ, ◌-◌, ◌^◌, List, [], ◌∷◌, ◌≡◌, refl, length, replicate}
use Rattle.std.proofs.Common.{ap, ◌∙◌}
use Rattle.model.specs.Lines.{line, ask}
use Rattle.model.specs.Runs.{Call}
use Rattle.model.specs.Runs.Call.{free}
use Rattle.opening.proofs.NewBlock.{new_blind}
use Rattle.block.specs.Runs.{WordsState, run_on, begin_on, lines_on}
use Rattle.block.specs.TenSteps.{on_old, ten_lines, ten_words}

abbrev linear : ℕ → ℕ → Call
linear size alignment = ask size alignment 1 1024 0

abbrev non_linear : ℕ → ℕ → Call
non_linear size alignment = ask size alignment 2 1024 0

-- the paper's ten steps; the tenth is three calls
pub ten_steps : List Call
ten_steps =
    linear 100 1
    ∷ non_linear 256 64
    ∷ linear 16 16
    ∷ free 2
    ∷ linear 16 1
    ∷ non_linear 100 1
    ∷ free 3
    ∷ free 2
    ∷ free 2
    ∷ linear 0 1
    ∷ linear 1 0
    ∷ linear 1 3
    ∷ []

-- The ten steps on a block of 4096 bytes with 8 slots.
ten_steps_lem : lines_on ten_steps (on_old 60 4096) ≡ ten_lines
unfolding on_old ten_steps
ten_steps_lem = refl

ten_steps_words : (run_on ten_steps (on_old 60 4096)).words ≡ ten_words
unfolding on_old ten_steps
ten_steps_words = refl

-- Ids 4 and 5 are still out.
ten_steps_live :
    (run_on ten_steps (on_old 60 4096)).live
    ≡ record { id = 5; offset = 2064; size = 16; kind = 1 } ∷ record { id = 4; offset = 2048; size = 16; kind = 1 } ∷ []
unfolding on_old ten_steps
ten_steps_live = refl

-- a new block is the same, whatever the 60 words held
any_content : (ws : List ℕ) → length ws ≡ 60 → begin_on ws 4096 ≡ on_old 60 4096
unfolding on_old
any_content ws l =
    let h = new_blind ws (replicate 60 9) 4096 l in
    ap (λ (vs : List ℕ). record { words = vs; live = [] }) (h.1 h.0)

-- So the ten steps answer the same, and leave the same words, on any old content.
pub ten_steps_any : (ws : List ℕ) → length ws ≡ 60
    → (lines_on ten_steps (begin_on ws 4096) ≡ ten_lines) × ((run_on ten_steps (begin_on ws 4096)).words ≡ ten_words)
ten_steps_any ws l =
    let e = any_content ws l in
    (ap (lines_on ten_steps) e ∙ ten_steps_lem, ap (λ (s : WordsState). (run_on ten_steps s).words) e ∙ ten_steps_words)

-- The paper's input of the program `blockbench`, after its first line.
bench_steps :
    lines_on (ask 100 1 1 1024 7 ∷ ask 256 64 2 1024 8 ∷ free 2 ∷ free 2 ∷ []) (on_old 60 4096)
    ≡ line 0 0 2 100 ∷ line 0 1024 3 1280 ∷ line 0 0 0 1180 ∷ line 10 0 0 1180 ∷ []
unfolding on_old
bench_steps = refl

-- ---- the whole block

-- A fresh block is taken whole under its own id, and one byte more is refused.
whole-block : lines_on (linear 4097 1 ∷ linear 4096 1 ∷ []) (on_old 60 4096) ≡ line 7 0 0 0 ∷ line 0 0 1 4096 ∷ []
unfolding on_old
whole-block = refl

-- In a table of one slot a split finds none, and the whole block needs none.
one_slot_lem : lines_on (linear 1 1 ∷ linear 4096 1 ∷ []) (on_old 11 4096) ≡ line 9 0 0 0 ∷ line 0 0 1 4096 ∷ []
unfolding on_old
one_slot_lem = refl

one_slot-words :
    (run_on (linear 1 1 ∷ linear 4096 1 ∷ []) (on_old 11 4096)).words
    ≡ 4096 ∷ 4096 ∷ 2 ∷ 1 ∷ 1 ∷ 4096 ∷ 0 ∷ 1 ∷ 0 ∷ 0 ∷ 0 ∷ []
unfolding on_old
one_slot-words = refl

-- ---- the last ids

-- a fresh table of two slots but for its next id, on which nothing was handed out
next_is : ℕ → WordsState
next_is next = record {
  words = 4096 ∷ 0 ∷ next ∷ 1 ∷ 1 ∷ 4096 ∷ 0 ∷ 0 ∷ 0 ∷ 0 ∷ 0 ∷ 0 ∷ 0 ∷ 0 ∷ 0 ∷ 0 ∷ 0 ∷ 0 ∷ [];
  live = [];
}

-- With the ids used up a split is refused, and an exact fit is accepted.
no_ids : lines_on (linear 1 1 ∷ linear 4096 1 ∷ []) (next_is (2 ^ 64 - 1)) ≡ line 8 0 0 0 ∷ line 0 0 1 4096 ∷ []
unfolding on_old next_is
no_ids = refl

-- The last id but one is handed out, and then they are used up, before it is seen that the slots are.
last_id :
    lines_on (linear 1 1 ∷ linear 1 1 ∷ []) (next_is (2 ^ 64 - 2)) ≡ line 0 0 (2 ^ 64 - 2) 1 ∷ line 8 0 0 1 ∷ []
unfolding on_old next_is
last_id = refl

-- On words that are no table nothing is allocated.
no_table_line : lines_on (free 2 ∷ []) (record { words = 9 ∷ []; live = [] }) ≡ line 1 0 0 0 ∷ []
unfolding on_old
no_table_line = refl
