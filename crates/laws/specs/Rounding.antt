-- Rounding to a multiple, down and up. Definitions. Assumes nothing.
use Rattle.std.specs.Prelude.{ℕ, ◌+◌, ◌-◌, ◌%◌, ◌≤◌, ◌≡◌}

-- x rounded down to a multiple of a
unfoldable pub align_down : ℕ → ℕ → ℕ
align_down x a = x - x % a

-- x rounded up to a multiple of a, where a is at least 1
unfoldable pub align_up : ℕ → ℕ → ℕ
align_up x a = align_down (x + (a - 1)) a

-- r is the greatest multiple of a at or below x
pub record GreatestMultiple (x a r : ℕ) : Type 0 where
  pub multiple : r % a ≡ 0
  pub below : r ≤ x
  pub greatest : (m : ℕ) → m % a ≡ 0 → m ≤ x → m ≤ r

-- r is the least multiple of a at or above x
pub record LeastMultiple (x a r : ℕ) : Type 0 where
  pub multiple : r % a ≡ 0
  pub above : x ≤ r
  pub least : (m : ℕ) → m % a ≡ 0 → x ≤ m → r ≤ m
