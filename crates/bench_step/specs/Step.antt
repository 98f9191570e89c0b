-- What a line is answered, and the block at hand after it: its words, none where there is no block. Assumes nothing.
use Rattle.std.specs.Prelude.{ℕ, cond, List, [], eqb, length, replicate}
use Rattle.std.proofs.Math.Option.{Option, none, some}
use Rattle.laws.specs.Reply.{Reply, accepted, refused}
use Rattle.laws.specs.Splice.{splice}
use Rattle.model.specs.Lines.{Line, line}
use Rattle.model.specs.Runs.{Call}
use Rattle.model.specs.Runs.Call.{allocate, free, rename_to}
use Rattle.table.specs.Layout.{word_count, most_slots}
use Rattle.words.specs.Checks.{up_to}
use Rattle.opening.specs.Creation.{new_on}
use Rattle.placing.specs.Placing.{allocate_on}
use Rattle.giving_back.specs.GivingBack.{free_on, rename_on}
use Rattle.block.specs.Runs.{line_on}
use Rattle.call_lines.specs.Format.{Asked}
use Rattle.call_lines.specs.Format.Asked.{new, call}

-- an answer, none for "?", and the words of the block at hand after it
abbrev pub Outcome : Type 0
Outcome = Option Line × List ℕ

-- ---- a new block

-- where it is refused there is no block any more
abbrev pub opened : Reply (Unit {0}) × List ℕ → Outcome
opened (accepted a, ws) = (some (line 0 0 0 0), ws)
opened (refused n, ws) = (some (line n 0 0 0), [])

-- no slots, or more than the largest table has, change nothing
unfoldable pub new_answered : ℕ → ℕ → List ℕ → Outcome
new_answered size slots ws = cond (up_to most_slots slots) (opened (new_on (replicate (word_count slots) 0) size)) (none, ws)

-- ---- a call

abbrev pub words_after : Call → List ℕ → List ℕ
words_after (allocate r) ws = (allocate_on ws r).1
words_after (free id) ws = (free_on ws id).1
words_after (rename_to id label) ws = (rename_on ws id label).1

-- its number, offset and id, the bytes allocated after it, and the words after it
abbrev pub line_after : Call → List ℕ → Outcome
line_after c ws = (some (line_on c ws), words_after c ws)

-- without a block it changes nothing
unfoldable pub call_answered : Call → List ℕ → Outcome
call_answered c ws = cond (eqb (length ws) 0) (none, ws) (line_after c ws)

-- ---- any line

abbrev pub answered : Option Asked → List ℕ → Outcome
answered none ws = (none, ws)
answered (some (new size slots)) ws = new_answered size slots ws
answered (some (call c)) ws = call_answered c ws

-- ---- the words at hand are the first ones of a store

-- the answer, how many words are at hand then, and the store
abbrev pub stored : List ℕ → Outcome → Option Line × ℕ × List ℕ
stored store (a, ws) = (a, length ws, splice store 0 ws)

-- what the number of a call tells of the table: 1 and 2 are its faults
unfoldable pub fault_told : ℕ → ℕ
fault_told n = cond (eqb n 1) 1 (cond (eqb n 2) 2 0)
