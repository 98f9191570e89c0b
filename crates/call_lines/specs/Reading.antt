-- A line read one byte at a time: what is kept of it after each byte, and what it asks for where it ends. Assumes nothing.
use Rattle.std.specs.Prelude.{ℕ, ◌+◌, ◌-◌, ◌*◌, ◌^◌, Bool, true, false, cond, not, List, [], ◌∷◌, eqb, ltb, get_or, Some, None}
use Rattle.std.specs.Prelude as code
use Rattle.std.proofs.Math.Option.{Option, none, some}
use Rattle.laws.specs.Every.{every}
use Rattle.model.specs.Placing.{Request}
use Rattle.model.specs.Runs.Call.{allocate, free}
use Rattle.call_lines.specs.Format.{Asked, is_digit}
use Rattle.call_lines.specs.Format.Asked.{new, call}
use Rattle.call_lines.specs.declared.line.Letter.{Letter}
use Rattle.call_lines.specs.declared.line.Letter.TheVariants as letters
use Rattle.call_lines.specs.declared.line.Line.{Line}
use Rattle.call_lines.specs.declared.line.Stage.{Stage}
use Rattle.call_lines.specs.declared.line.Stage.TheVariants as came

-- ---- the letter

-- "n", "a", "f"
abbrev pub byte_of : Letter → ℕ
byte_of letters.New = 110
byte_of letters.Allocate = 97
byte_of letters.Free = 102

unfoldable pub is_letter : ℕ → Bool
is_letter b = cond (eqb b 110) true (cond (eqb b 97) true (eqb b 102))

unfoldable pub letter_of : ℕ → code.Option Letter
letter_of b = cond (eqb b 110) (Some letters.New) (cond (eqb b 97) (Some letters.Allocate) (cond (eqb b 102) (Some letters.Free) None))

-- the letter that was read is this one
abbrev pub is_read : code.Option Letter → Letter → Bool
is_read None c = false
is_read (Some b) c = eqb (byte_of b) (byte_of c)

-- ---- lines

-- with nothing but a letter
abbrev pub line_at : Stage → code.Option Letter → Line
line_at stage letter = record { stage = stage; letter = letter; count = 0; before = 0 ∷ 0 ∷ 0 ∷ 0 ∷ []; value = 0 }

-- no byte read
abbrev pub fresh : Line
fresh = line_at came.Nothing None

-- what no further byte makes readable
abbrev pub unreadable : Line
unreadable = line_at came.Unreadable None

-- after the letter
abbrev pub lettered : ℕ → Line
lettered b = line_at came.Letter (letter_of b)

-- inside a number that has come to v so far
abbrev pub numbered : Line → ℕ → Line
numbered l v = record { stage = came.Digit; letter = l.letter; count = l.count; before = l.before; value = v }

-- after a space: the number before it is pushed in last, and the next one begins
abbrev pub spaced : Line → Line
spaced l = record {
  stage = came.Space;
  letter = l.letter;
  count = l.count + 1;
  before = get_or l.before 1 0 ∷ get_or l.before 2 0 ∷ get_or l.before 3 0 ∷ l.value ∷ [];
  value = 0;
}

-- ---- one byte more

-- a digit goes on with a number, or begins one after a space; the value stays below 2^64
abbrev pub takes_digit : Stage → Bool
takes_digit came.Digit = true
takes_digit came.Space = true
takes_digit _ = false

abbrev pub digit_tests : Line → ℕ → List Bool
digit_tests l digit = takes_digit l.stage ∷ ltb (l.value * 10 + digit) (2 ^ 64) ∷ []

unfoldable pub with_digit : Line → ℕ → Line
with_digit l digit = cond (every (digit_tests l digit)) (numbered l (l.value * 10 + digit)) unreadable

-- a space comes after the letter or a number, and no sixth number begins
abbrev pub takes_space : Stage → Bool
takes_space came.Letter = true
takes_space came.Digit = true
takes_space _ = false

abbrev pub space_tests : Line → List Bool
space_tests l = takes_space l.stage ∷ ltb l.count 5 ∷ []

unfoldable pub with_space : Line → Line
with_space l = cond (every (space_tests l)) (spaced l) unreadable

-- the letter comes first
abbrev pub is_nothing : Stage → Bool
is_nothing came.Nothing = true
is_nothing _ = false

abbrev pub letter_tests : Line → ℕ → List Bool
letter_tests l b = is_nothing l.stage ∷ is_letter b ∷ []

unfoldable pub with_letter : Line → ℕ → Line
with_letter l b = cond (every (letter_tests l b)) (lettered b) unreadable

unfoldable pub fed : Line → ℕ → Line
fed l b = cond (is_digit b) (with_digit l (b - 48)) (cond (eqb b 32) (with_space l) (with_letter l b))

-- many bytes, one after the other
unfoldable pub fed_all : Line → List ℕ → Line
fed_all l [] = l
fed_all l (b ∷ s) = fed_all (fed l b) s

-- ---- the line ends

-- in a number, after a letter and as the last of so many
abbrev pub is_number : Stage → Bool
is_number came.Digit = true
is_number _ = false

abbrev pub asking_tests : Line → Letter → ℕ → List Bool
asking_tests l letter count = is_number l.stage ∷ is_read l.letter letter ∷ eqb l.count count ∷ []

unfoldable pub is_asking : Line → Letter → ℕ → Bool
is_asking l letter count = every (asking_tests l letter count)

-- the request of the last five numbers
abbrev pub request_at : Line → Request
request_at l = record {
  size = get_or l.before 0 0;
  alignment = get_or l.before 1 0;
  kind = get_or l.before 2 0;
  granularity = get_or l.before 3 0;
  label = l.value;
}

-- the last two numbers, the last five, or the last one
unfoldable pub asked : Line → Option Asked
asked l =
    cond (is_asking l letters.New 2) (some (new (get_or l.before 3 0) l.value))
    (cond (is_asking l letters.Allocate 5) (some (call (allocate (request_at l))))
    (cond (is_asking l letters.Free 1) (some (call (free l.value))) none))

-- it has a byte
unfoldable pub is_begun : Line → Bool
is_begun l = not (is_nothing l.stage)
