-- The whole number nearest to a quotient, of two equally near the even one. Definitions. Assumes nothing.
use Rattle.std.specs.Prelude.{ℕ, ◌+◌, ◌-◌, ◌*◌, ◌/◌, ◌%◌, ◌≤◌, ◌≡◌, cond, ltb}

-- n / d rounded: down below one half, up above it, and at one half to the even of the two
unfoldable pub nearest : ℕ → ℕ → ℕ
nearest n d =
    cond (ltb (2 * (n % d)) d) (n / d)
    (cond (ltb d (2 * (n % d))) (n / d + 1) (n / d + n / d % 2))

-- how far two numbers are apart
abbrev pub distance : ℕ → ℕ → ℕ
distance a b = (a - b) + (b - a)

-- h * d is at most half of d away from n, and h is even where it is just that
pub record Nearest (n d h : ℕ) : Type 0 where
  pub near : 2 * distance n (h * d) ≤ d
  pub even : 2 * distance n (h * d) ≡ d → h % 2 ≡ 0
