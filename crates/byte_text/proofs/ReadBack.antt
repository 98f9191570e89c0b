-- The text of an amount of bytes is read back as the amount, rounded as the rule says. Assumes nothing.
use Rattle.std.specs.Prelude.{ℕ, zero, suc, ◌+◌, ◌-◌, ◌*◌, ◌/◌, ◌^◌, ◌≤◌, ◌<◌, Bool, true, cond, ◌≡◌, refl, eqb, leb, length, get_or}
use mathlib.Core.List.{List, [], ◌∷◌, ◌++◌, Memᴰ}
use Rattle.std.proofs.Math.Option.{none, some}
use Rattle.std.proofs.Common.{ap, ◌∙◌, arith, length-append, le-leb}
use Rattle.laws.specs.Decimal.{decimal, digit, value_from, decimal-small, decimal-large, decimal-reads, decimal-bytes}
use Rattle.laws.specs.Every.{two, more, every}
use Rattle.laws.specs.Letters.{bytes}
use Rattle.laws.specs.Nearest.{Nearest}
use Rattle.laws.proofs.Nearest.{nearest-is}
use Rattle.laws.specs.Tests.{either}
use Rattle.byte_text.specs.ByteText.{Shown, suffix, shown_as, shown, hundredths, places, text_of, fmt_bytes}
use Rattle.byte_text.specs.ByteTextLaws.{Scaled, Bounded, shown-small, hundredths-bound}
use Rattle.byte_text.proofs.Dividing.{shown-large, shown-bounded}
use Rattle.byte_text.specs.Reader.{is_digit, same, named, names, after_point, whole, read_text, Says}

is_digit_lem : (b : ℕ) → 48 ≤ b → b ≤ 57 → is_digit b ≡ true
is_digit_lem b l h = two (leb 48 b) (leb b 57) (le-leb 48 b l) (le-leb b 57 h)

-- Digits are read as their value.
digits_read : (x : ℕ) (s rest : List ℕ) → ((b : ℕ) → Memᴰ b s → (48 ≤ b) × (b ≤ 57)) → whole x (s ++ rest) ≡ whole (value_from x s) rest
unfolding whole value_from
digits_read x [] rest d = refl
digits_read x (b ∷ s) rest d =
    rw (is_digit_lem b (d b (Memᴰ.head refl)).0 (d b (Memᴰ.head refl)).1)
    (digits_read (x * 10 + (b - 48)) s rest (λ c m. d c (Memᴰ.tail m)))

-- There is a digit before the point.
some_digit : (n : ℕ) → n < 10 ^ 20 → 0 < length (decimal n)
some_digit n h =
    either _ n 10 (λ l. rw (decimal-small n l) (omega arith)) (λ l. rw (decimal-large n l h, length-append) (omega arith))

first-digit : (s rest : List ℕ) → 0 < length s → ((b : ℕ) → Memᴰ b s → (48 ≤ b) × (b ≤ 57)) → is_digit (get_or (s ++ rest) 0 0) ≡ true
first-digit [] rest l d = absurd (omega arith)
first-digit (b ∷ s) rest l d = is_digit_lem b (d b (Memᴰ.head refl)).0 (d b (Memᴰ.head refl)).1

-- Each unit is known by its name.
name_read : (h u : ℕ) → u ≤ 4 → named h 0 names (suffix u) ≡ some (h, u)
unfolding named same suffix bytes
name_read h zero l = refl
name_read h (suc zero) l = refl
name_read h (suc (suc zero)) l = refl
name_read h (suc (suc (suc zero))) l = refl
name_read h (suc (suc (suc (suc zero)))) l = refl
name_read h (suc (suc (suc (suc (suc u))))) l = absurd (omega arith)

point_read : (x : ℕ) (s : List ℕ) → whole x (46 ∷ s) ≡ after_point x s
unfolding whole every
point_read x s = refl

blank_read : (x a b : ℕ) (s : List ℕ) → is_digit a ≡ true → is_digit b ≡ true →
    after_point x (a ∷ b ∷ 32 ∷ s) ≡ named (x * 100 + (a - 48) * 10 + (b - 48)) 0 names s
unfolding after_point
blank_read x a b s p q =
    ap (λ (t : Bool). cond t (named (x * 100 + (a - 48) * 10 + (b - 48)) 0 names s) none)
    (more (is_digit a) (is_digit b ∷ eqb 32 32 ∷ []) p (two (is_digit b) (eqb 32 32) q refl))

-- Two digits, a blank and a name are read as what they are.
places-read : (x a b u : ℕ) → a ≤ 9 → b ≤ 9 → u ≤ 4 → whole x (46 ∷ digit a ∷ digit b ∷ 32 ∷ suffix u) ≡ some (x * 100 + (digit a - 48) * 10 + (digit b - 48), u)
places-read x a b u p q l =
    point_read x _
    ∙ blank_read x (digit a) (digit b) (suffix u) (is_digit_lem (digit a) (omega arith) (omega arith)) (is_digit_lem (digit b) (omega arith) (omega arith))
    ∙ name_read _ u l

-- The text of h hundredths of a unit reads as these.
text_read : (h u : ℕ) → h / 100 < 10 ^ 20 → u ≤ 4 → read_text (text_of h u) ≡ some (h, u)
unfolding read_text text_of
text_read h u b l =
    ap (λ (t : Bool). cond t (whole 0 (text_of h u)) none)
    (first-digit (decimal (h / 100)) _ (some_digit (h / 100) b) (decimal-bytes (h / 100)))
    ∙ digits_read 0 (decimal (h / 100)) _ (decimal-bytes (h / 100))
    ∙ ap (λ (n : ℕ). whole n (places h ++ suffix u)) (decimal-reads (h / 100) b)
    ∙ places-read (h / 100) _ _ u (omega arith) (omega arith) l
    ∙ ap (λ (n : ℕ). some (n, u)) (omega arith)

-- A unit that is divided down to is that of x.
unit_is : (x u a : ℕ) → 1 ≤ u → u ≤ 4 → a ≡ x / 1024 ^ (u - 1) → 1024 ≤ a → a < 1024 * 1024 → (1024 ^ u ≤ x) × (x < 1024 ^ suc u)
unit_is x zero a l h e p q = absurd (omega arith)
unit_is x (suc zero) a l h e p q = (omega arith, omega arith)
unit_is x (suc (suc zero)) a l h e p q = (omega arith, omega arith)
unit_is x (suc (suc (suc zero))) a l h e p q = (omega arith, omega arith)
unit_is x (suc (suc (suc (suc zero)))) a l h e p q = (omega arith, omega arith)
unit_is x (suc (suc (suc (suc (suc u))))) a l h e p q = absurd (omega arith)

fmt_read : (x : ℕ) → Bounded (shown x) → read_text (fmt_bytes x) ≡ some (hundredths (shown x), (shown x).unit)
unfolding fmt_bytes
fmt_read x b = text_read (hundredths (shown x)) (shown x).unit (omega (arith, hundredths-bound (shown x) b)) b.named

-- One byte is a hundred hundredths.
bytes-exact : (x : ℕ) → hundredths (shown_as x 1 0) ≡ 100 * x
unfolding hundredths
bytes-exact x = omega (arith, (nearest-is (100 * x) 1 (omega arith)).near)

-- What is shown is rounded.
places-near : (s : Shown) (n d : ℕ) → 0 < d → s.amount ≡ n → s.over ≡ d → Nearest (100 * n) d (hundredths s)
unfolding hundredths
places-near s n d pos e f = rw (e, f) (nearest-is (100 * n) d pos)

-- The text of an amount below 2 ^ 50 says it, rounded to two places of its unit.
pub says : (x : ℕ) → x < 2 ^ 50 → Says x (fmt_bytes x)
says x h = either (Says x (fmt_bytes x)) x 1024 small large
  where
    read : read_text (fmt_bytes x) ≡ some (hundredths (shown x), (shown x).unit)
    read = fmt_read x (shown-bounded x h)

    small : x < 1024 → Says x (fmt_bytes x)
    small l = let e = shown-small x l in
        record {
          h = hundredths (shown x);
          unit = 0;
          reads = read ∙ ap (λ (s : Shown). some (hundredths (shown x), s.unit)) e;
          below = l;
          from = λ n. absurd (n refl);
          exact = λ z. ap hundredths e ∙ bytes-exact x;
          near = λ n. absurd (n refl);
        }

    large : 1024 ≤ x → Says x (fmt_bytes x)
    large l =
        let d : Scaled 1 4 x (shown x) = shown-large x l h in
        let bounds = unit_is x (shown x).unit (shown x).amount d.from d.to d.whole d.low d.high in
        record {
          h = hundredths (shown x);
          unit = (shown x).unit;
          reads = read;
          below = bounds.1;
          from = λ n. bounds.0;
          exact = λ z. absurd (omega (arith, d.from, z));
          near = λ n. places-near (shown x) (x / 1024 ^ ((shown x).unit - 1)) 1024 (omega arith) d.whole d.over;
        }
