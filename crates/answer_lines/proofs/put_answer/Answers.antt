-- `put_answer` meets its contract. Assumes nothing.
use Rattle.std.proofs.Common.{arith}
use Rattle.answer_lines.proofs.Parts.{one_byte, question}
use Rattle.answer_lines.proofs.put_answer.Goals as goal

pub returns-in-None : goal.returns-in-None
returns-in-None c = rw c.in-None.is (question (omega arith) (one_byte c.put-next.ensures) (one_byte c.put.ensures))
