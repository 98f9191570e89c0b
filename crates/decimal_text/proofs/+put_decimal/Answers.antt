-- `put_decimal` meets its contract: the last digit goes behind those of the tenth. Assumes nothing.
use Rattle.std.proofs.Common.{arith}
use Rattle.laws.specs.Decimal.{decimal-small}
use Rattle.decimal_text.proofs.Digits.{len_small, len_large, digits}
use Rattle.decimal_text.proofs.+put_decimal.Goals as goal

pub put-requires : goal.put-requires
put-requires t c = omega (arith, len_small c.args.n (omega arith))

pub returns-then-n-lt10 : goal.returns-then-n-lt10
returns-then-n-lt10 t c = rw (decimal-small c.args.n (omega arith)) c.put.ensures

pub put_decimal-next-requires : goal.put_decimal-next-requires
put_decimal-next-requires t c = omega (arith, len_large c.args.n (omega arith) (omega arith))

pub put-requires-2 : goal.put-requires-2
put-requires-2 t c = omega (arith, len_large c.args.n (omega arith) (omega arith))

pub returns : goal.returns
returns t c =
    digits _ _ _ _ _ _ c.args.n (omega arith) (omega arith) c.requires c.put_decimal-next.ensures.0 c.put_decimal-next.ensures.1 c.put-2.ensures.0 c.put-2.ensures.1
