-- The paper's printed lines, by computing. Assumes nothing.
use Rattle.std.specs.Prelude.{ℕ, ◌-◌, ◌^◌, List, ◌≡◌, refl, length, Some}
use Rattle.std.proofs.Math.Option.{Option, none, some}
use Rattle.laws.specs.Decimal.{decimal, decimal_in}
use Rattle.laws.specs.Letters.{bytes}
use Rattle.model.specs.Lines.{Line, line}
use Rattle.answer_lines.specs.Printed.{printed, answer_of, longest}

-- what is printed, open to computing
text : Option Line → List ℕ
unfolding decimal decimal_in bytes
text o = printed o

fresh : printed (some (line 0 0 0 0)) ≡ bytes "0 0 0 0\n"
unfolding text
fresh = refl

placed : printed (some (line 0 1024 3 1280)) ≡ bytes "0 1024 3 1280\n"
unfolding text
placed = refl

refused : printed (some (line 10 0 0 1180)) ≡ bytes "10 0 0 1180\n"
unfolding text
refused = refl

unread : printed none ≡ bytes "?\n"
unfolding text
unread = refl

largest : printed (some (line 6 0 0 (2 ^ 64 - 1))) ≡ bytes "6 0 0 18446744073709551615\n"
unfolding text
largest = refl

-- Four numbers of 20 digits make the longest line.
full : length (printed (some (line (2 ^ 64 - 1) (2 ^ 64 - 1) (2 ^ 64 - 1) (2 ^ 64 - 1)))) ≡ longest
unfolding text
full = refl

-- The code's numbers are those of a line, in their order.
told : answer_of (Some (record { number = 0; offset = 1024; id = 3; allocated = 1280 })) ≡ some (line 0 1024 3 1280)
told = refl
