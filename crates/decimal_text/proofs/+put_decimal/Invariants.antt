-- `put_decimal` ends since n / 10 is below n. Assumes nothing.
use Rattle.decimal_text.proofs.+put_decimal.Given as goal

abbrev pub decreases-put_decimal : goal.decreases-put_decimal
decreases-put_decimal l = l.n
