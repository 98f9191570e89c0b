-- The format of calls: the lines of a text, the fields of a line, and what a line asks for. Assumes nothing.
use Rattle.std.specs.Prelude.{ℕ, ◌^◌, Bool, true, false, cond, List, [], ◌∷◌, eqb, ltb, leb, length, get_or}
use Rattle.std.proofs.Math.Option.{Option, none, some}
use Rattle.laws.specs.Decimal.{value_of}
use Rattle.laws.specs.Every.{every}
use Rattle.model.specs.Placing.{Request}
use Rattle.model.specs.Runs.{Call}
use Rattle.model.specs.Runs.Call.{allocate, free}

-- a block of a size with so many slots, or a call on the block at hand
pub data Asked : Type 0 where
  new : ℕ → ℕ → Asked
  call : Call → Asked

-- ---- pieces

-- a byte more in front of the first piece
abbrev pub with_first : ℕ → List (List ℕ) → List (List ℕ)
with_first b [] = (b ∷ []) ∷ []
with_first b (p ∷ ps) = (b ∷ p) ∷ ps

-- what stands between the bytes c: one piece more than there are of them
unfoldable pub cut : ℕ → List ℕ → List (List ℕ)
cut c [] = [] ∷ []
cut c (b ∷ s) = cond (eqb b c) ([] ∷ cut c s) (with_first b (cut c s))

-- the pieces but for an empty last one
unfoldable pub ended : List (List ℕ) → List (List ℕ)
ended [] = []
ended ([] ∷ []) = []
ended ((b ∷ p) ∷ []) = (b ∷ p) ∷ []
ended (p ∷ q ∷ ps) = p ∷ ended (q ∷ ps)

-- the lines of a text stand between line feeds; the last one needs none if it has a byte
unfoldable pub lines : List ℕ → List (List ℕ)
lines text = ended (cut 10 text)

-- the fields of a line stand between single spaces
unfoldable pub fields : List ℕ → List (List ℕ)
fields line = cut 32 line

-- ---- numbers

abbrev pub is_digit : ℕ → Bool
is_digit b = every (leb 48 b ∷ leb b 57 ∷ [])

unfoldable pub all_digits : List ℕ → Bool
all_digits [] = true
all_digits (b ∷ s) = cond (is_digit b) (all_digits s) false

-- one or more digits with a value below 2^64; zeros may lead
unfoldable pub number_of : List ℕ → Option ℕ
number_of [] = none
number_of (b ∷ s) = cond (all_digits (b ∷ s)) (cond (ltb (value_of (b ∷ s)) (2 ^ 64)) (some (value_of (b ∷ s))) none) none

abbrev pub with_number : Option ℕ → Option (List ℕ) → Option (List ℕ)
with_number none ns = none
with_number (some n) none = none
with_number (some n) (some ns) = some (n ∷ ns)

-- the numbers of fields, each of which has to be one
unfoldable pub numbers_of : List (List ℕ) → Option (List ℕ)
numbers_of [] = some []
numbers_of (f ∷ fs) = with_number (number_of f) (numbers_of fs)

-- ---- calls

-- the letter is c, and n numbers follow it
abbrev pub is_form : ℕ → List ℕ → ℕ → ℕ → Bool
is_form letter ns c n = every (eqb letter c ∷ eqb (length ns) n ∷ [])

-- size alignment kind granularity label
abbrev pub request_in : List ℕ → Request
request_in ns = record {
  size = get_or ns 0 0;
  alignment = get_or ns 1 0;
  kind = get_or ns 2 0;
  granularity = get_or ns 3 0;
  label = get_or ns 4 0;
}

-- "n" size slots; "a" and the five numbers of a request; "f" id
unfoldable pub asked_by : ℕ → List ℕ → Option Asked
asked_by letter ns =
    cond (is_form letter ns 110 2) (some (new (get_or ns 0 0) (get_or ns 1 0)))
    (cond (is_form letter ns 97 5) (some (call (allocate (request_in ns))))
    (cond (is_form letter ns 102 1) (some (call (free (get_or ns 0 0)))) none))

abbrev pub asked_with : ℕ → Option (List ℕ) → Option Asked
asked_with letter none = none
asked_with letter (some ns) = asked_by letter ns

-- the first field is one letter, and each other is a number
unfoldable pub asked_in : List (List ℕ) → Option Asked
asked_in [] = none
asked_in (f ∷ fs) = cond (eqb (length f) 1) (asked_with (get_or f 0 0) (numbers_of fs)) none

-- what a line asks for; none where it is unreadable
unfoldable pub read_line : List ℕ → Option Asked
read_line line = asked_in (fields line)
