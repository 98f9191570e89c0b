-- The paper's lines, and lines at the format's edges, by computing. Assumes nothing.
use Rattle.std.specs.Prelude.{ℕ, ◌-◌, ◌^◌, List, [], ◌∷◌, ◌≡◌, refl, Some}
use Prim.Native.String.{String}
use Rattle.std.proofs.Math.Option.{Option, none, some}
use Rattle.laws.specs.Letters.{bytes}
use Rattle.laws.specs.Decimal.{value_from}
use Rattle.laws.specs.Every.{every}
use Rattle.model.specs.Runs.Call.{allocate, free}
use Rattle.call_lines.specs.Format.{Asked, cut, ended, lines, fields, all_digits, number_of, numbers_of, asked_by, asked_in, read_line}
use Rattle.call_lines.specs.Format.Asked.{new, call}
use Rattle.call_lines.specs.Asked.{asked_of}
use Rattle.call_lines.specs.declared.asked.Call.TheVariants as asked

-- what a line asks for, open to computing
line : String → Option Asked
unfolding read_line fields cut asked_in asked_by numbers_of number_of all_digits value_from every bytes
line s = read_line (bytes s)

-- the lines of a text, open to computing
parts : String → List (List ℕ)
unfolding lines ended cut bytes
parts s = lines (bytes s)

-- ---- the paper's lines

opened : line "n 4096 8" ≡ some (new 4096 8)
unfolding line
opened = refl

first : line "a 100 1 1 1024 7" ≡ some (call (allocate (record { size = 100; alignment = 1; kind = 1; granularity = 1024; label = 7 })))
unfolding line
first = refl

second : line "a 256 64 2 1024 8" ≡ some (call (allocate (record { size = 256; alignment = 64; kind = 2; granularity = 1024; label = 8 })))
unfolding line
second = refl

freed : line "f 2" ≡ some (call (free 2))
unfolding line
freed = refl

-- The code asks for them with its numbers in the same order.
opened-asked : asked_of (Some (asked.New 4096 8)) ≡ line "n 4096 8"
unfolding line
opened-asked = refl

second_asked : asked_of (Some (asked.Allocate (record { size = 256; alignment = 64; kind = 2; granularity = 1024; label = 8 }))) ≡ line "a 256 64 2 1024 8"
unfolding line
second_asked = refl

-- ---- numbers

-- Zeros may lead, more than twenty of them too.
zeros_lead : line "f 0002" ≡ some (call (free 2))
unfolding line
zeros_lead = refl

many_zeros : line "n 00000000000000000000000000000004 0" ≡ some (new 4 0)
unfolding line
many_zeros = refl

largest : line "f 18446744073709551615" ≡ some (call (free (2 ^ 64 - 1)))
unfolding line
largest = refl

too_large : line "f 18446744073709551616" ≡ none
unfolding line
too_large = refl

more_digits : line "f 100000000000000000000" ≡ none
unfolding line
more_digits = refl

signed : line "f +2" ≡ none
unfolding line
signed = refl

-- ":" stands right behind "9", and "/" right before "0".
behind_nine : line "f 2:" ≡ none
unfolding line
behind_nine = refl

before_zero : line "f /2" ≡ none
unfolding line
before_zero = refl

other_base : line "f 0x2" ≡ none
unfolding line
other_base = refl

-- ---- spaces

double_space : line "f  2" ≡ none
unfolding line
double_space = refl

space_behind : line "f 2 " ≡ none
unfolding line
space_behind = refl

space_before : line " f 2" ≡ none
unfolding line
space_before = refl

tab : line "f\t2" ≡ none
unfolding line
tab = refl

carriage_return : line "f 2\r" ≡ none
unfolding line
carriage_return = refl

nul : line "f 2\0" ≡ none
unfolding line
nul = refl

-- ---- letters and fields

empty : line "" ≡ none
unfolding line
empty = refl

upper_case : line "F 2" ≡ none
unfolding line
upper_case = refl

-- A change of a label is no line of the program.
renamed : line "r 1 2" ≡ none
unfolding line
renamed = refl

two_letters : line "ff 2" ≡ none
unfolding line
two_letters = refl

letter_alone : line "n" ≡ none
unfolding line
letter_alone = refl

field-missing : line "a 100 1 1 1024" ≡ none
unfolding line
field-missing = refl

further_field : line "a 100 1 1 1024 7 7" ≡ none
unfolding line
further_field = refl

slots_missing : line "n 4096" ≡ none
unfolding line
slots_missing = refl

ids-two : line "f 2 3" ≡ none
unfolding line
ids-two = refl

-- ---- the lines of a text

-- The last line needs no line feed.
fed-last : parts "f 2\nf 3\n" ≡ bytes "f 2" ∷ bytes "f 3" ∷ []
unfolding parts
fed-last = refl

unfed_last : parts "f 2\nf 3" ≡ bytes "f 2" ∷ bytes "f 3" ∷ []
unfolding parts
unfed_last = refl

no_text : parts "" ≡ []
unfolding parts
no_text = refl

two_feeds : parts "\n\n" ≡ [] ∷ [] ∷ []
unfolding parts
two_feeds = refl

feed_first : parts "\nf" ≡ [] ∷ bytes "f" ∷ []
unfolding parts
feed_first = refl
