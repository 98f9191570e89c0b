-- What is true of the text of an amount of bytes. Assumes nothing.
use Rattle.std.specs.Prelude.{ℕ, zero, suc, ◌+◌, ◌-◌, ◌*◌, ◌/◌, ◌^◌, ◌≤◌, ◌<◌, ◌≡◌, refl, length}
use Rattle.std.proofs.Common.{mul-le-mul_right, arith, length-append, lt-ltb, le-ltb}
use Rattle.laws.specs.Nearest.{Nearest}
use Rattle.laws.proofs.Nearest.{nearest-is}
use Rattle.laws.specs.Decimal.{decimal}
use Rattle.byte_text.specs.ByteText.{Shown, suffix, shown_as, divided, shown, hundredths, text_of}

-- The last division is the one that comes below 1024.
pub divided-stops : (fuel unit x : ℕ) → x / 1024 < 1024 → divided fuel unit x ≡ shown_as x 1024 unit
unfolding divided
divided-stops zero unit x h = refl
divided-stops (suc fuel) unit x h = rw (lt-ltb (x / 1024) 1024 h)

-- s shows x, divided by 1024 once for each unit from the first on, as an amount from 1024 to below 1024 * 1024, over 1024
pub record Scaled (first last x : ℕ) (s : Shown) : Type 0 where
  pub whole : s.amount ≡ x / 1024 ^ (s.unit - first)
  pub low : 1024 ≤ s.amount
  pub high : s.amount < 1024 * 1024
  pub over : s.over ≡ 1024
  pub from : first ≤ s.unit
  pub to : s.unit ≤ last

-- From 1024 on the amount is divided.
pub shown-divided : (x : ℕ) → 1024 ≤ x → shown x ≡ divided 3 1 x
unfolding shown
shown-divided x h = rw (le-ltb x 1024 h)

-- Below 1024 the amount itself is shown.
pub shown-small : (x : ℕ) → x < 1024 → shown x ≡ shown_as x 1 0
unfolding shown
shown-small x h = rw (lt-ltb x 1024 h)

-- s is a number below 1024, in a unit that has a name
pub record Bounded (s : Shown) : Type 0 where
  pub quotient : s.amount < 1024 * s.over
  pub divisor : 0 < s.over
  pub small : s.over ≤ 1024
  pub named : s.unit ≤ 4

-- Rounded, such a number is at most 1024.00.
pub hundredths-bound : (s : Shown) → Bounded s → hundredths s ≤ 102400
unfolding hundredths
hundredths-bound s b =
    let n : Nearest (100 * s.amount) s.over (hundredths s) = nearest-is (100 * s.amount) s.over b.divisor in
    let most : ¬ (102401 ≤ hundredths s) = λ l. omega (arith, mul-le-mul_right s.over l) in
    omega arith

-- A unit's name has at most two letters.
pub suffix-short : (unit : ℕ) → length (suffix unit) ≤ 2
unfolding suffix
suffix-short zero = omega arith
suffix-short (suc zero) = omega arith
suffix-short (suc (suc zero)) = omega arith
suffix-short (suc (suc (suc zero))) = omega arith
suffix-short (suc (suc (suc (suc unit)))) = omega arith

-- The text is the whole part's digits, four bytes, and the unit's name.
pub text_length : (h unit : ℕ) → length (text_of h unit) ≡ length (decimal (h / 100)) + 4 + length (suffix unit)
unfolding text_of
text_length h unit = rw length-append (omega arith)
