-- What an answer is at the boundary: a number, the values asked for, and what was lent. Assumes nothing.
use Rattle.std.specs.Prelude.{ℕ, Bool, cond, List}
use Rattle.laws.specs.Reply.{Reply, accepted, refused, number}
use Rattle.model.specs.Placing.{Request}
use Rattle.sub_allocator.specs.Answers.{Given}

-- the number given back and the value written: 0 on a refusal
abbrev pub value_out : Reply ℕ → ℕ × ℕ
value_out (accepted value) = (0, value)
value_out (refused n) = (n, 0)

-- the same of yes and no: 1 and 0
abbrev pub flag_out : Reply Bool → ℕ × ℕ
flag_out (accepted flag) = (0, cond flag 1 0)
flag_out (refused n) = (n, 0)

-- the number given back, and the words after the call
abbrev pub words_out : {A : Type 0} → Reply A × List ℕ → ℕ × List ℕ
words_out answer = (number answer.0, answer.1)

-- a request in numbers
abbrev pub request : ℕ → ℕ → ℕ → ℕ → ℕ → Request
request size alignment kind granularity label = record {
  size = size;
  alignment = alignment;
  kind = kind;
  granularity = granularity;
  label = label;
}

-- the offset and the id that are written: 0 on a refusal
abbrev pub offset_out : Reply Given → ℕ
offset_out (accepted g) = g.offset
offset_out (refused n) = 0

abbrev pub id_out : Reply Given → ℕ
id_out (accepted g) = g.id
id_out (refused n) = 0

-- the number given back, and both values
abbrev pub placement_out : Reply Given → ℕ × ℕ × ℕ
placement_out answer = (number answer, offset_out answer, id_out answer)

-- the same, and the words after the call
abbrev pub placed_out : Reply Given × List ℕ → ℕ × ℕ × ℕ × List ℕ
placed_out answer = (number answer.0, offset_out answer.0, id_out answer.0, answer.1)
