-- The paper's examples, by computing. Assumes nothing.
use Rattle.std.specs.Prelude.{ℕ, ◌-◌, ◌^◌, ◌≡◌, refl, List, [], ◌++◌, replicate}
use Rattle.laws.specs.Reply.{Reply, accepted, refused}
use Rattle.laws.specs.Nearest.{nearest}
use Rattle.laws.specs.Letters.{bytes}
use Rattle.laws.specs.Decimal.{decimal, decimal_in}
use Rattle.byte_text.specs.ByteText.{suffix, divided, shown, hundredths, text_of, fmt_bytes, fmt_bytes_into}

-- the call, open to computing
call : ℕ → List ℕ → Reply ℕ × List ℕ
unfolding fmt_bytes_into fmt_bytes text_of hundredths shown divided nearest decimal decimal_in suffix bytes
call x buf = fmt_bytes_into x buf

-- ---- the text
none : fmt_bytes 0 ≡ bytes "0.00 B"
unfolding call
none = refl

below_a_unit : fmt_bytes 1023 ≡ bytes "1023.00 B"
unfolding call
below_a_unit = refl

-- 1.125 is a tie, and so is 1.375.
tie_down : fmt_bytes 1152 ≡ bytes "1.12 KB"
unfolding call
tie_down = refl

tie_up : fmt_bytes 1408 ≡ bytes "1.38 KB"
unfolding call
tie_up = refl

half : fmt_bytes 1536 ≡ bytes "1.50 KB"
unfolding call
half = refl

-- It is rounded after the unit is chosen.
rounded_up : fmt_bytes 1048575 ≡ bytes "1024.00 KB"
unfolding call
rounded_up = refl

next_unit : fmt_bytes 1048576 ≡ bytes "1.00 MB"
unfolding call
next_unit = refl

third_unit : fmt_bytes (2 ^ 30) ≡ bytes "1.00 GB"
unfolding call
third_unit = refl

largest : fmt_bytes (2 ^ 50 - 1) ≡ bytes "1024.00 TB"
unfolding call
largest = refl

-- ---- the call
-- Of twelve sevens the last five are kept.
kept : fmt_bytes_into 1536 (replicate 12 7) ≡ (accepted 7, bytes "1.50 KB" ++ replicate 5 7)
unfolding call
kept = refl

just_fits : fmt_bytes_into 1536 (replicate 7 7) ≡ (accepted 7, bytes "1.50 KB")
unfolding call
just_fits = refl

one_too_short : fmt_bytes_into 1536 (replicate 6 7) ≡ (refused 16, replicate 6 7)
unfolding call
one_too_short = refl

last_taken : fmt_bytes_into (2 ^ 50 - 1) (replicate 10 7) ≡ (accepted 10, bytes "1024.00 TB")
unfolding call
last_taken = refl

too_much : fmt_bytes_into (2 ^ 50) (replicate 12 7) ≡ (refused 15, replicate 12 7)
unfolding call
too_much = refl

-- The amount is looked at before the buffer.
too_much_first : fmt_bytes_into (2 ^ 50) [] ≡ (refused 15, [])
unfolding call
too_much_first = refl
