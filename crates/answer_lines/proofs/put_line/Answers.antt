-- `put_line` meets its contract. Assumes nothing.
use Rattle.std.proofs.Common.{arith}
use Rattle.answer_lines.proofs.Parts.{four_fields}
use Rattle.answer_lines.proofs.put_line.Goals as goal

pub returns : goal.returns
returns c =
    four_fields _ _ _ _ (omega arith) c.put_field-second.ensures c.put_field-third.ensures c.put_field-fourth.ensures c.put_field.ensures
