-- Runs of calls on the words of a table, the ranges that they hand out, and a line for each. Assumes nothing.
use Rattle.std.specs.Prelude.{ℕ, List, [], ◌∷◌}
use Rattle.laws.specs.Reply.{Reply, accepted, refused, number}
use Rattle.model.specs.Lines.{Line, line}
use Rattle.model.specs.Placing.{Request}
use Rattle.model.specs.Runs.{Call, Range, without}
use Rattle.model.specs.Runs.Call.{allocate, free, rename_to}
use Rattle.opening.specs.Creation.{new_on}
use Rattle.opening.specs.Questions.{allocated_on}
use Rattle.sub_allocator.specs.Answers.{Given}
use Rattle.placing.specs.Placing.{allocate_on}
use Rattle.giving_back.specs.GivingBack.{free_on, rename_on}

-- the words of a table, and the ranges that were handed out on it and not given back
pub record WordsState : Type 0 where
  pub words : List ℕ
  pub live : List Range

-- ---- one call: the words that it leaves, and the ranges after its answer

-- an accepted request puts in the range that it is told, with its own size and kind
abbrev pub handed_out : Request → List Range → Reply Given → List Range
handed_out r live (refused n) = live
handed_out r live (accepted g) = record { id = g.id; offset = g.offset; size = r.size; kind = r.kind } ∷ live

-- an accepted free takes out those with the id
abbrev pub given_back : ℕ → List Range → Reply (Unit {0}) → List Range
given_back id live (refused n) = live
given_back id live (accepted a) = without id live

abbrev pub after_allocate : Request → List Range → Reply Given × List ℕ → WordsState
after_allocate r live a = record { words = a.1; live = handed_out r live a.0 }

abbrev pub after_free : ℕ → List Range → Reply (Unit {0}) × List ℕ → WordsState
after_free id live a = record { words = a.1; live = given_back id live a.0 }

abbrev pub after_rename : List Range → Reply (Unit {0}) × List ℕ → WordsState
after_rename live a = record { words = a.1; live = live }

abbrev pub step_on : Call → WordsState → WordsState
step_on (allocate r) s = after_allocate r s.live (allocate_on s.words r)
step_on (free id) s = after_free id s.live (free_on s.words id)
step_on (rename_to id label) s = after_rename s.live (rename_on s.words id label)

-- ---- many calls, one after the other

abbrev pub run_on : List Call → WordsState → WordsState
run_on [] s = s
run_on (c ∷ cs) s = run_on cs (step_on c s)

-- the words that creation leaves, on which nothing was handed out
abbrev pub begin_on : List ℕ → ℕ → WordsState
begin_on ws size = record { words = (new_on ws size).1; live = [] }

-- ---- what calls answer

-- the bytes told, 0 where the question is refused
abbrev pub told : Reply ℕ → ℕ
told (accepted n) = n
told (refused n) = 0

-- the answer of a call, and the bytes that are allocated in the words after it
abbrev pub placed_line : Reply Given × List ℕ → Line
placed_line (accepted g, ws) = line 0 g.offset g.id (told (allocated_on ws))
placed_line (refused n, ws) = line n 0 0 (told (allocated_on ws))

abbrev pub changed_line : Reply (Unit {0}) × List ℕ → Line
changed_line (a, ws) = line (number a) 0 0 (told (allocated_on ws))

abbrev pub line_on : Call → List ℕ → Line
line_on (allocate r) ws = placed_line (allocate_on ws r)
line_on (free id) ws = changed_line (free_on ws id)
line_on (rename_to id label) ws = changed_line (rename_on ws id label)

-- the lines of calls, one after the other
unfoldable pub lines_on : List Call → WordsState → List Line
lines_on [] s = []
lines_on (c ∷ cs) s = line_on c s.words ∷ lines_on cs (step_on c s)
