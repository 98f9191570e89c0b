-- An amount of bytes as text, as people read it. Assumes nothing.
use Rattle.std.specs.Prelude.{ℕ, zero, suc, ◌+◌, ◌*◌, ◌/◌, ◌%◌, ◌^◌, cond, List, [], ◌∷◌, ◌++◌, Option, Some, None, ltb, leb, length, drop}
use Rattle.laws.specs.Reply.{Reply, accepted, refused}
use Rattle.laws.specs.Nearest.{nearest}
use Rattle.laws.specs.Decimal.{decimal, digit}
use Rattle.byte_text.specs.declared.Shown as declared
use Rattle.byte_text.specs.declared.Unit.{Unit}
use Rattle.byte_text.specs.declared.Unit.TheVariants as units

-- what is shown: amount / over, in a unit from 0 for "B" to 4 for "TB"
pub record Shown : Type 0 where
  pub amount : ℕ
  pub over : ℕ
  pub unit : ℕ

-- the code's units by their places
abbrev pub place : Unit → ℕ
place units.B = 0
place units.KB = 1
place units.MB = 2
place units.GB = 3
place units.TB = 4

-- what the code's own shows
abbrev pub shown_of : declared.Shown → Shown
shown_of s = record { amount = s.amount; over = s.over; unit = place s.unit }

-- the name of a unit by the letter before "B", if there is one
abbrev pub spelt : Option ℕ → List ℕ
spelt None = 66 ∷ []
spelt (Some letter) = letter ∷ 66 ∷ []

-- the unit's name: "B", "KB", "MB", "GB", "TB"
unfoldable pub suffix : ℕ → List ℕ
suffix zero = 66 ∷ []
suffix (suc zero) = 75 ∷ 66 ∷ []
suffix (suc (suc zero)) = 77 ∷ 66 ∷ []
suffix (suc (suc (suc zero))) = 71 ∷ 66 ∷ []
suffix (suc (suc (suc (suc u)))) = 84 ∷ 66 ∷ []

-- amount / over, in a unit
abbrev pub shown_as : ℕ → ℕ → ℕ → Shown
shown_as amount over unit = record { amount = amount; over = over; unit = unit }

-- x, at a unit, divided by 1024 until it is below 1024, at most `fuel` times and once more: the amount before the last division
unfoldable pub divided : ℕ → ℕ → ℕ → Shown
divided zero unit x = shown_as x 1024 unit
divided (suc fuel) unit x = cond (ltb (x / 1024) 1024) (shown_as x 1024 unit) (divided fuel (unit + 1) (x / 1024))

-- what is shown of x bytes: below 1024 the amount itself
unfoldable pub shown : ℕ → Shown
shown x = cond (ltb x 1024) (shown_as x 1 0) (divided 3 1 x)

-- to two places, an exact tie to the even digit
unfoldable pub hundredths : Shown → ℕ
hundredths s = nearest (100 * s.amount) s.over

-- ".", two digits, " "
abbrev pub places : ℕ → List ℕ
places h = 46 ∷ digit (h / 10 % 10) ∷ digit (h % 10) ∷ 32 ∷ []

-- h hundredths of a unit: the whole part, the places, the unit's name
unfoldable pub text_of : ℕ → ℕ → List ℕ
text_of h unit = decimal (h / 100) ++ (places h ++ suffix unit)

-- the text of x bytes
unfoldable pub fmt_bytes : ℕ → List ℕ
fmt_bytes x = text_of (hundredths (shown x)) (shown x).unit

-- the call: 15 from 2 ^ 50 on, then 16 for a short buffer; else the text at the front, its length, and the rest kept
unfoldable pub fmt_bytes_into : ℕ → List ℕ → Reply ℕ × List ℕ
fmt_bytes_into x buf =
    cond (leb (2 ^ 50) x) (refused 15, buf)
    (cond (ltb (length buf) (length (fmt_bytes x))) (refused 16, buf)
    (accepted (length (fmt_bytes x)), fmt_bytes x ++ drop (length (fmt_bytes x)) buf))
