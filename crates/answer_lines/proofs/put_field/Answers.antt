-- `put_field` meets its contract. Assumes nothing.
use Rattle.std.proofs.Common.{arith}
use Rattle.laws.specs.Decimal.{decimal-short}
use Rattle.answer_lines.proofs.Parts.{one_field}
use Rattle.answer_lines.proofs.put_field.Goals as goal

pub put_decimal-next-requires : goal.put_decimal-next-requires
put_decimal-next-requires c = omega (arith, decimal-short 19 c.args.n (omega arith))

pub put-requires : goal.put-requires
put-requires c = omega (arith, decimal-short 19 c.args.n (omega arith))

pub returns : goal.returns
returns c = one_field _ _ _ _ _ _ _ _ (omega arith) (omega arith) c.put_decimal-next.ensures c.put.ensures
