-- `decimal_len` meets its contract. Assumes nothing.
use Rattle.std.proofs.Common.{arith, ◌/◌}
use Rattle.laws.specs.Decimal.{decimal-short}
use Rattle.decimal_text.proofs.Digits.{len_small, len_large}
use Rattle.decimal_text.proofs.+decimal_len.Goals as goal

pub returns-then-n-lt10 : goal.returns-then-n-lt10
returns-then-n-lt10 t c = len_small _ (omega arith)

pub overflow_add-result : goal.overflow_add-result
overflow_add-result t c = omega (arith, decimal-short 19 (c.args.n / 10) (omega arith))

pub returns : goal.returns
returns t c = omega (arith, len_large c.args.n (omega arith) (omega arith))
