-- The calls that change a dedicated block, at the boundary: the numbers and words that stand for each answer. Assumes nothing.
use Rattle.std.specs.Prelude.{ℕ, List}
use Rattle.laws.specs.Reply.{Reply}
use Rattle.sub_allocator.specs.Answers.{Given}
use Rattle.dedicated.specs.declared.record.DedicatedBlock.{DedicatedBlock}
use Rattle.outs.specs.Outs.{words_out, placed_out}
use Rattle.dedicated.specs.RecordWords.{words_of}

-- the number given back, and the record's words after the call
abbrev pub record_out : {A : Type 0} → Reply A × DedicatedBlock → ℕ × List ℕ
record_out answer = words_out (answer.0, words_of answer.1)

-- the number given back, the offset and the id, and the record's words after the call
abbrev pub placed_record_out : Reply Given × DedicatedBlock → ℕ × ℕ × ℕ × List ℕ
placed_record_out answer = placed_out (answer.0, words_of answer.1)
