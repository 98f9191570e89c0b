-- A reader of the text of an amount of bytes, which takes nothing from the writer, and what is to be read. Assumes nothing.
use Rattle.std.specs.Prelude.{ℕ, suc, ◌+◌, ◌-◌, ◌*◌, ◌/◌, ◌^◌, ◌≤◌, ◌<◌, Bool, true, false, cond, List, [], ◌∷◌, ◌≢◌, ◌≡◌, eqb, leb, get_or}
use Rattle.std.proofs.Math.Option.{Option, none, some}
use Rattle.laws.specs.Every.{every}
use Rattle.laws.specs.Letters.{bytes}
use Rattle.laws.specs.Nearest.{Nearest}

-- "0" to "9"
abbrev pub is_digit : ℕ → Bool
is_digit b = every (leb 48 b ∷ leb b 57 ∷ [])

-- the two texts are the same
unfoldable pub same : List ℕ → List ℕ → Bool
same [] [] = true
same [] (b ∷ t) = false
same (a ∷ s) [] = false
same (a ∷ s) (b ∷ t) = cond (eqb a b) (same s t) false

-- h hundredths of the unit whose name the text is, where the names from unit u on are these
unfoldable pub named : ℕ → ℕ → List (List ℕ) → List ℕ → Option (ℕ × ℕ)
named h u [] s = none
named h u (name ∷ names) s = cond (same name s) (some (h, u)) (named h (u + 1) names s)

-- the units' names, in order
abbrev pub names : List (List ℕ)
names = bytes "B" ∷ bytes "KB" ∷ bytes "MB" ∷ bytes "GB" ∷ bytes "TB" ∷ []

-- after the point: two digits, a blank and a name
unfoldable pub after_point : ℕ → List ℕ → Option (ℕ × ℕ)
after_point x [] = none
after_point x (a ∷ []) = none
after_point x (a ∷ b ∷ []) = none
after_point x (a ∷ b ∷ c ∷ s) =
    cond (every (is_digit a ∷ is_digit b ∷ eqb c 32 ∷ []))
    (named (x * 100 + (a - 48) * 10 + (b - 48)) 0 names s)
    none

-- digits up to the point, after the number x
unfoldable pub whole : ℕ → List ℕ → Option (ℕ × ℕ)
whole x [] = none
whole x (b ∷ s) = cond (is_digit b) (whole (x * 10 + (b - 48)) s) (cond (eqb b 46) (after_point x s) none)

-- what a text says: hundredths of a unit, and the unit, from 0 for "B" to 4 for "TB"; none where it is no such text
unfoldable pub read_text : List ℕ → Option (ℕ × ℕ)
read_text s = cond (is_digit (get_or s 0 0)) (whole 0 s) none

-- the text of x bytes reads as h hundredths of a unit: the unit is that of x; in "B" h is exact, and else it is nearest to the whole
-- part of x in the unit before, over 1024, of two equally near the even one
pub record Says (x : ℕ) (text : List ℕ) : Type 0 where
  pub h : ℕ
  pub unit : ℕ
  pub reads : read_text text ≡ some (h, unit)
  pub below : x < 1024 ^ suc unit
  pub from : unit ≢ 0 → 1024 ^ unit ≤ x
  pub exact : unit ≡ 0 → h ≡ 100 * x
  pub near : unit ≢ 0 → Nearest (100 * (x / 1024 ^ (unit - 1))) 1024 h
