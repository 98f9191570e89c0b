-- On the way to `ReadLaws`: what single bytes do to a line, and the numbers that the bytes to come stand for. Assumes nothing.
use Rattle.std.specs.Prelude.{ℕ, ◌+◌, ◌-◌, ◌*◌, ◌^◌, ◌≤◌, ◌<◌, Bool, true, false, cond, List, [], ◌∷◌, ◌≡◌, refl, eqb, ltb, leb}
use Rattle.std.proofs.Common.{⊎_elim, ap, ◌∙◌, arith, eqb-true, leb-true, lt-ltb, le-ltb, le-leb, ne_eqb}
use Rattle.std.proofs.Math.Option.{Option, none, some}
use Rattle.std.proofs.lemmas.Bool.{lt-leb}
use Rattle.laws.specs.Decimal.{value_from, value_grows}
use Rattle.laws.specs.Every.{every, cases, pass, fail, two}
use Rattle.laws.specs.Tests.{cond_same}
use Rattle.call_lines.specs.Format.{with_first, is_digit, all_digits, number_of, with_number, numbers_of}
use Rattle.call_lines.specs.Reading.{fresh, unreadable, lettered, numbered, spaced, with_digit, space_tests, with_space, is_letter, with_letter, fed, fed_all, is_asking, asked}
use Rattle.call_lines.specs.declared.line.Line.{Line}

-- ---- bytes

-- a digit, a space, or neither
pub byte_cases : (P : Type 0) (b : ℕ) → (is_digit b ≡ true → P) → (eqb b 32 ≡ true → P) → (is_digit b ≡ false → eqb b 32 ≡ false → P) → P
byte_cases P b f g h = ⊎_elim f (λ d. ⊎_elim g (h d) (cases (eqb b 32))) (cases (is_digit b))

-- A digit is between "0" and "9", and no space.
abbrev range : ℕ → List Bool
range b = leb 48 b ∷ leb b 57 ∷ []

pub digit_low : (b : ℕ) → is_digit b ≡ true → 48 ≤ b
digit_low b d = leb-true 48 b (pass (range b) 0 d)

pub digit-high : (b : ℕ) → is_digit b ≡ true → b ≤ 57
digit-high b d = leb-true b 57 (pass (range b) 1 d)

pub digit-no_space : (b : ℕ) → is_digit b ≡ true → eqb b 32 ≡ false
digit-no_space b d = ne_eqb b 32 (λ e. omega (arith, digit_low b d))

pub is_digit_lem : (b : ℕ) → 48 ≤ b → b ≤ 57 → is_digit b ≡ true
is_digit_lem b p q = two _ _ (le-leb 48 b p) (le-leb b 57 q)

pub below_digits : (b : ℕ) → b < 48 → is_digit b ≡ false
below_digits b h = fail (range b) 0 (lt-leb 48 b h)

pub above_digits : (b : ℕ) → 57 < b → is_digit b ≡ false
above_digits b h = fail (range b) 1 (lt-leb b 57 h)

-- A letter is neither.
one_of : (P : Type 0) (t u w : Bool) → (t ≡ true → P) → (u ≡ true → P) → (w ≡ true → P) → cond t true (cond u true w) ≡ true → P
one_of P true u w f g h e = f refl
one_of P false true w f g h e = g refl
one_of P false false w f g h e = h e

pub letter_high : (b : ℕ) → is_letter b ≡ true → 57 < b
unfolding is_letter
letter_high b e =
    one_of _ (eqb b 110) (eqb b 97) (eqb b 102) (λ t. omega (arith, eqb-true b 110 t)) (λ t. omega (arith, eqb-true b 97 t))
    (λ t. omega (arith, eqb-true b 102 t)) e

pub letter_no_digit : (b : ℕ) → is_letter b ≡ true → is_digit b ≡ false
letter_no_digit b e = above_digits b (letter_high b e)

pub letter_no_space : (b : ℕ) → is_letter b ≡ true → eqb b 32 ≡ false
letter_no_space b e = ne_eqb b 32 (λ t. omega (arith, letter_high b e))

-- ---- a line that is unreadable

unreadable-fed : (b : ℕ) → fed unreadable b ≡ unreadable
unfolding fed with_digit with_space with_letter every
unreadable-fed b = rw (cond_same (eqb b 32) unreadable) (cond_same (is_digit b) unreadable)

-- It asks for nothing, whatever comes.
pub unreadable-asks : (s : List ℕ) → asked (fed_all unreadable s) ≡ none
unfolding fed_all asked is_asking every
unreadable-asks [] = refl
unreadable-asks (b ∷ s) = ap (λ l. asked (fed_all l s)) (unreadable-fed b) ∙ unreadable-asks s

-- ---- one byte after the letter, after a number so far, and after a space

pub any_space : (l : Line) (b : ℕ) → eqb b 32 ≡ true → fed l b ≡ with_space l
unfolding fed
any_space l b e = rw (below_digits b (omega (arith, eqb-true b 32 e)), e)

pub first-letter : (b : ℕ) → is_letter b ≡ true → fed fresh b ≡ lettered b
unfolding fed with_letter every
first-letter b e = rw (letter_no_digit b e, letter_no_space b e, e)

pub first-other : (b : ℕ) → is_letter b ≡ false → fed fresh b ≡ unreadable
unfolding fed with_digit with_space with_letter every
first-other b e = rw (e, cond_same (eqb b 32) unreadable) (cond_same (is_digit b) unreadable)

pub letter_other : (letter b : ℕ) → eqb b 32 ≡ false → fed (lettered letter) b ≡ unreadable
unfolding fed with_digit with_letter every
letter_other letter b n = rw n (cond_same (is_digit b) unreadable)

pub number-digit : (l : Line) (v b : ℕ) → is_digit b ≡ true → v * 10 + (b - 48) < 2 ^ 64 → fed (numbered l v) b ≡ numbered l (v * 10 + (b - 48))
unfolding fed with_digit every
number-digit l v b d k = rw (d, lt-ltb (v * 10 + (b - 48)) (2 ^ 64) k)

pub number-full : (l : Line) (v b : ℕ) → is_digit b ≡ true → 2 ^ 64 ≤ v * 10 + (b - 48) → fed (numbered l v) b ≡ unreadable
unfolding fed with_digit every
number-full l v b d k = rw (d, le-ltb (v * 10 + (b - 48)) (2 ^ 64) k)

pub number-other : (l : Line) (v b : ℕ) → is_digit b ≡ false → eqb b 32 ≡ false → fed (numbered l v) b ≡ unreadable
unfolding fed with_letter every
number-other l v b d n = rw (d, n)

pub space_digit : (l : Line) (b : ℕ) → is_digit b ≡ true → fed (spaced l) b ≡ numbered (spaced l) (0 * 10 + (b - 48))
unfolding fed with_digit every
space_digit l b d = rw (d, lt-ltb (0 * 10 + (b - 48)) (2 ^ 64) (omega (arith, digit-high b d)))

pub space_space : (l : Line) → with_space (spaced l) ≡ unreadable
unfolding with_space every
space_space l = refl

pub space_other : (l : Line) (b : ℕ) → is_digit b ≡ false → eqb b 32 ≡ false → fed (spaced l) b ≡ unreadable
unfolding fed with_letter every
space_other l b d n = rw (d, n)

pub space_asks : (l : Line) → asked (spaced l) ≡ none
unfolding asked is_asking every
space_asks l = refl

-- a space is taken or makes the line unreadable
pub space_cases : (P : Type 0) (l : Line) → (with_space l ≡ spaced l → P) → (with_space l ≡ unreadable → P) → P
unfolding with_space
space_cases P l f g = ⊎_elim (λ e. f (rw e)) (λ e. g (rw e)) (cases (every (space_tests l)))

-- ---- the numbers of the bytes to come

-- a number that has come to v, and what else is in its field
unfoldable pub number_from : ℕ → List ℕ → Option ℕ
number_from v f = cond (all_digits f) (cond (ltb (value_from v f) (2 ^ 64)) (some (value_from v f)) none) none

-- such a number and those of further fields
unfoldable pub numbers_from : ℕ → List (List ℕ) → Option (List ℕ)
numbers_from v [] = with_number (number_from v []) (some [])
numbers_from v (f ∷ fs) = with_number (number_from v f) (numbers_of fs)

pub from-digit : (v b : ℕ) (p : List (List ℕ)) → is_digit b ≡ true → numbers_from v (with_first b p) ≡ numbers_from (v * 10 + (b - 48)) p
unfolding numbers_from number_from numbers_of all_digits value_from
from-digit v b [] d = rw d
from-digit v b (f ∷ fs) d = rw d

pub from-other : (v b : ℕ) (p : List (List ℕ)) → is_digit b ≡ false → numbers_from v (with_first b p) ≡ none
unfolding numbers_from number_from all_digits
from-other v b [] d = rw d
from-other v b (f ∷ fs) d = rw d

-- A field with a byte goes on from 0.
pub from_zero : (b : ℕ) (p : List (List ℕ)) → numbers_of (with_first b p) ≡ numbers_from 0 (with_first b p)
unfolding numbers_from number_from numbers_of number_of
from_zero b [] = refl
from_zero b (f ∷ fs) = refl

-- A number that is whole.
pub from-whole : (v : ℕ) (fs : List (List ℕ)) → v < 2 ^ 64 → numbers_from v ([] ∷ fs) ≡ with_number (some v) (numbers_of fs)
unfolding numbers_from number_from all_digits value_from
from-whole v fs h = rw (lt-ltb v (2 ^ 64) h)

-- From 2^64 on there is no number, since a value only grows.
too_large : (v : ℕ) (f : List ℕ) → 2 ^ 64 ≤ v → number_from v f ≡ none
unfolding number_from
too_large v f h = rw (le-ltb (value_from v f) (2 ^ 64) (omega (arith, value_grows v f))) (cond_same (all_digits f) none)

pub from-large : (v : ℕ) (p : List (List ℕ)) → 2 ^ 64 ≤ v → numbers_from v p ≡ none
unfolding numbers_from
from-large v [] h = rw (too_large v [] h)
from-large v (f ∷ fs) h = rw (too_large v f h)
