-- The laws that the proofs of `decimal_text` share. Assumes nothing.
use Rattle.std.specs.Prelude.{ℕ, ◌+◌, ◌/◌, ◌%◌, ◌^◌, ◌≤◌, ◌<◌, ◌≡◌, List, [], ◌∷◌, length}
use Rattle.std.proofs.Common.{arith, length-append}
use Rattle.laws.specs.Decimal.{decimal, digit, decimal-small, decimal-large}
use Rattle.laws.specs.Splice.{splice, splice-both}

-- how many there are
pub len_small : (n : ℕ) → n < 10 → 1 ≡ length (decimal n)
len_small n h = rw (decimal-small n h)

pub len_large : (n : ℕ) → 10 ≤ n → n < 10 ^ 20 → length (decimal n) ≡ length (decimal (n / 10)) + 1
len_large n h b = rw (decimal-large n h b) (length-append (decimal (n / 10)) (digit (n % 10) ∷ []))

-- the digits of the tenth, and the last one behind them
pub digits : (xs ys zs : List ℕ) (at next end n : ℕ) → 10 ≤ n → n < 10 ^ 20 → at + length (decimal n) ≤ length xs →
    next ≡ at + length (decimal (n / 10)) → ys ≡ splice xs at (decimal (n / 10)) →
    end ≡ next + 1 → zs ≡ splice ys next (digit (n % 10) ∷ []) →
    (end ≡ at + length (decimal n)) × (zs ≡ splice xs at (decimal n))
digits xs ys zs at next end n l b h e a f g = (
  omega (arith, len_large n l b),
  rw (decimal-large n l b) (splice-both xs ys zs at next (decimal (n / 10)) (digit (n % 10) ∷ []) (rw (decimal-large n l b) at h) e a g),
)
