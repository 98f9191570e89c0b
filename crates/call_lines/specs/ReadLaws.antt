-- What is true of reading a line one byte at a time. Assumes nothing.
use Rattle.std.specs.Prelude.{ℕ, ◌+◌, ◌-◌, ◌*◌, Bool, true, false, cond, List, [], ◌∷◌, ◌++◌, ◌≡◌, refl, eqb}
use Rattle.laws.specs.Every.{every}
use Rattle.laws.specs.Tests.{cond_cases}
use Rattle.call_lines.specs.Format.{is_digit}
use Rattle.call_lines.specs.Reading.{fresh, unreadable, lettered, numbered, spaced, digit_tests, with_digit, space_tests, with_space, letter_tests, with_letter, fed, fed_all, is_begun}
use Rattle.call_lines.specs.declared.line.Line.{Line}

-- Bytes that come in two parts are fed one part after the other.
pub fed-parts : (l : Line) (s t : List ℕ) → fed_all l (s ++ t) ≡ fed_all (fed_all l s) t
unfolding fed_all
fed-parts l [] t = refl
fed-parts l (b ∷ s) t = fed-parts (fed l b) s t

-- ---- whether there is a byte

or_unreadable : (t : Bool) (l : Line) → is_begun l ≡ true → is_begun (cond t l unreadable) ≡ true
unfolding is_begun
or_unreadable true l e = e
or_unreadable false l e = refl

fed-begun : (l : Line) (b : ℕ) → is_begun (fed l b) ≡ true
unfolding is_begun fed with_digit with_space with_letter
fed-begun l b =
    cond_cases (λ k. is_begun k ≡ true) (is_digit b) (λ d. or_unreadable (every (digit_tests l (b - 48))) (numbered l (l.value * 10 + (b - 48))) refl)
    (λ d. cond_cases (λ k. is_begun k ≡ true) (eqb b 32) (λ e. or_unreadable (every (space_tests l)) (spaced l) refl)
    (λ e. or_unreadable (every (letter_tests l b)) (lettered b) refl))

stays_begun : (s : List ℕ) (l : Line) → is_begun l ≡ true → is_begun (fed_all l s) ≡ true
unfolding fed_all
stays_begun [] l e = e
stays_begun (b ∷ s) l e = stays_begun s (fed l b) (fed-begun l b)

-- A line without a byte is not begun, and any other is.
pub none_begun : is_begun (fed_all fresh []) ≡ false
unfolding fed_all is_begun
none_begun = refl

pub some_begun : (b : ℕ) (s : List ℕ) → is_begun (fed_all fresh (b ∷ s)) ≡ true
unfolding fed_all
some_begun b s = stays_begun s (fed fresh b) (fed-begun fresh b)
