-- Worked examples of a line's answer and of the words at hand after it, by computing. Assumes nothing.
use Rattle.std.specs.Prelude.{ℕ, ◌+◌, ◌^◌, List, [], ◌∷◌, ◌++◌, map, ◌≡◌, refl, replicate}
use Rattle.std.proofs.Math.Option.{none, some}
use Rattle.laws.specs.Every.{every}
use Rattle.laws.specs.Members.{has, distinct, same}
use Rattle.laws.specs.Splice.{splice}
use Rattle.model.specs.Lines.{line, lines, ask}
use Rattle.model.specs.Runs.Call.{free}
use Rattle.table.specs.Layout.{is_table}
use Rattle.words.specs.Checks.{up_to}
use Rattle.words.specs.Words.{row_at, rows, encode, read, chunks_of, block_of, chunk_ok, all_ok, none_free, rules, sound, decode}
use Rattle.opening.specs.Creation.{new_on}
use Rattle.opening.specs.Questions.{allocated_on}
use Rattle.placing.specs.Placing.{allocate_on}
use Rattle.giving_back.specs.GivingBack.{free_on, rename_on}
use Rattle.call_lines.specs.Format.{Asked}
use Rattle.call_lines.specs.Format.Asked.{new, call}
use Rattle.bench_step.specs.Step.{Outcome, new_answered, call_answered, answered, stored, fault_told}

-- what a readable line comes to, open to computing
comes : Asked → List ℕ → Outcome
unfolding new_answered call_answered new_on up_to allocated_on is_table decode sound rules none_free all_ok chunk_ok block_of chunks_of read encode rows row_at every has distinct same allocate_on free_on rename_on lines
comes a ws = answered (some a) ws

-- a fresh block of 4096 bytes with one slot
abbrev one_slot : List ℕ
one_slot = 4096 ∷ 0 ∷ 2 ∷ 1 ∷ 1 ∷ 4096 ∷ 0 ∷ 0 ∷ 0 ∷ 0 ∷ 0 ∷ []

-- the paper's block, of the same size with eight slots
abbrev fresh_eight : List ℕ
fresh_eight = 4096 ∷ 0 ∷ 2 ∷ 1 ∷ 1 ∷ 4096 ∷ replicate 54 0

-- the paper's block after its first request: 100 bytes under id 2 with label 7, and the rest under id 1
abbrev eight_slots : List ℕ
eight_slots =
    4096 ∷ 100 ∷ 3 ∷ 2
    ∷ 1 ∷ 3996 ∷ 100 ∷ 0 ∷ 0 ∷ 0 ∷ 2
    ∷ 2 ∷ 100 ∷ 0 ∷ 1 ∷ 7 ∷ 1 ∷ 0
    ∷ replicate 42 0

-- ---- a new block

-- It takes the place of the one at hand, whatever that is.
opened_one : map (comes (new 4096 1)) ([] ∷ one_slot ∷ eight_slots ∷ []) ≡ replicate 3 (some (line 0 0 0 0), one_slot)
unfolding comes
opened_one = refl

opened-eight : map (comes (new 4096 8)) ([] ∷ eight_slots ∷ []) ≡ replicate 2 (some (line 0 0 0 0), fresh_eight)
unfolding comes
opened-eight = refl

-- 512 slots are the most, and the largest block has 2^40 bytes.
opened-largest : (comes (new (2 ^ 40) 512) one_slot).0 ≡ some (line 0 0 0 0)
unfolding comes
opened-largest = refl

-- Slots outside 1 to 512 change nothing, not even with a size that is refused.
no_slots : comes (new 4096 0) eight_slots ≡ (none, eight_slots)
unfolding comes
no_slots = refl

too_many_slots : comes (new 4096 513) eight_slots ≡ (none, eight_slots)
unfolding comes
too_many_slots = refl

slots_before_size : comes (new 0 513) eight_slots ≡ (none, eight_slots)
unfolding comes
slots_before_size = refl

-- A size that is refused ends the block.
no_bytes : comes (new 0 8) eight_slots ≡ (some (line 13 0 0 0), [])
unfolding comes
no_bytes = refl

too_many_bytes : comes (new (2 ^ 40 + 1) 1) eight_slots ≡ (some (line 13 0 0 0), [])
unfolding comes
too_many_bytes = refl

-- ---- a call

-- Without a block it changes nothing, be it well made or not.
no_block : map (λ c. comes (call c) []) (ask 100 1 1 1024 7 ∷ ask 0 0 0 0 0 ∷ free 2 ∷ []) ≡ replicate 3 (none, [])
unfolding comes
no_block = refl

-- The paper's first request, and every word after it.
placed : comes (call (ask 100 1 1 1024 7)) fresh_eight ≡ (some (line 0 0 2 100), eight_slots)
unfolding comes
placed = refl

-- The second one stands elsewhere than at 0, and the bytes allocated have its padding.
placed_on_lem : (comes (call (ask 256 64 2 1024 8)) eight_slots).0 ≡ some (line 0 1024 3 1280)
unfolding comes
placed_on_lem = refl

-- A free tells offset 0 and id 0, and leaves a fresh block but for the next id.
freed :
    comes (call (free 2)) eight_slots
    ≡ (some (line 0 0 0 0), 4096 ∷ 0 ∷ 3 ∷ 2 ∷ replicate 7 0 ++ (2 ∷ 4096 ∷ replicate 47 0))
unfolding comes
freed = refl

-- A refusal tells its number and what is allocated, and changes nothing.
refused_free : comes (call (free 1)) eight_slots ≡ (some (line 10 0 0 100), eight_slots)
unfolding comes
refused_free = refl

refused_size : comes (call (ask 0 1 1 1024 7)) eight_slots ≡ (some (line 3 0 0 100), eight_slots)
unfolding comes
refused_size = refl

no_room : comes (call (ask 4096 1 1 1024 7)) eight_slots ≡ (some (line 7 0 0 100), eight_slots)
unfolding comes
no_room = refl

-- On words that are no sound table nothing is told to be allocated.
no_table : comes (call (free 2)) (9 ∷ []) ≡ (some (line 1 0 0 0), 9 ∷ [])
unfolding comes
no_table = refl

unsound : comes (call (free 2)) (replicate 11 9) ≡ (some (line 2 0 0 0), replicate 11 9)
unfolding comes
unsound = refl

-- ---- an unreadable line

unreadable : answered none eight_slots ≡ (none, eight_slots)
unreadable = refl

-- ---- the store

-- The words at hand are its first ones, and it keeps its others.
in_store : stored (9 ∷ 9 ∷ 9 ∷ []) (none, 1 ∷ 2 ∷ []) ≡ (none, 2, 1 ∷ 2 ∷ 9 ∷ [])
unfolding splice
in_store = refl

-- ---- the numbers that tell of the table

faults : map fault_told (0 ∷ 1 ∷ 2 ∷ 3 ∷ 7 ∷ 10 ∷ []) ≡ 0 ∷ 1 ∷ 2 ∷ 0 ∷ 0 ∷ 0 ∷ []
unfolding fault_told
faults = refl
