-- On the way to `ReadLaws`: a line into which whole numbers are pushed, and what it asks for. Assumes nothing.
use Rattle.std.specs.Prelude.{ℕ, Bool, true, false, cond, List, [], ◌∷◌, ◌≡◌, refl, eqb, length}
use Rattle.std.proofs.Common.{true≢false, sym, ap, ◌∙◌, arith, eqb-true, ne_eqb}
use Rattle.std.proofs.Math.Option.{Option, none, some}
use Rattle.laws.specs.Every.{every}
use Rattle.laws.specs.Tests.{cond_cases, cond_same}
use Rattle.call_lines.specs.Format.{Asked, with_first, cut, number_of, with_number, numbers_of, asked_by, asked_with}
use Rattle.call_lines.specs.Reading.{unreadable, lettered, numbered, spaced, takes_digit, with_space, is_letter, letter_of, is_read, is_asking, asked}
use Rattle.call_lines.specs.ReadSteps.{number_from, numbers_from}
use Rattle.call_lines.specs.declared.line.Letter.TheVariants as letters
use Rattle.call_lines.specs.declared.line.Line.{Line}

-- a whole number where one may begin
unfoldable pub filled : Line → ℕ → Line
filled l n = cond (takes_digit l.stage) (numbered l n) unreadable

-- a space and a number, for each
unfoldable pub pushed : Line → List ℕ → Line
pushed l [] = l
pushed l (n ∷ ns) = pushed (filled (with_space l) n) ns

-- what is asked once they are pushed
unfoldable pub asked_pushed : Line → Option (List ℕ) → Option Asked
asked_pushed l none = none
asked_pushed l (some ns) = asked (pushed l ns)

-- what is asked where the first of them is the number at hand
unfoldable pub asked_from : Line → Option (List ℕ) → Option Asked
asked_from l none = none
asked_from l (some []) = none
asked_from l (some (n ∷ ns)) = asked (pushed (numbered l n) ns)

-- The number at hand is whole.
pub from-pushed : (l : Line) (n : ℕ) (q : Option (List ℕ)) → asked_from l (with_number (some n) q) ≡ asked_pushed (numbered l n) q
unfolding asked_from asked_pushed
from-pushed l n none = refl
from-pushed l n (some ns) = refl

-- After a space the first number is at hand.
pub pushed-from : (l : Line) (o : Option ℕ) (q : Option (List ℕ)) → with_space l ≡ spaced l →
    asked_from (spaced l) (with_number o q) ≡ asked_pushed l (with_number o q)
unfolding asked_from asked_pushed pushed filled
pushed-from l none q e = refl
pushed-from l (some n) none e = refl
pushed-from l (some n) (some ns) e = ap (λ k. asked (pushed (filled k n) ns)) (sym e)

pub numbers_pushed : (l : Line) (v : ℕ) (p : List (List ℕ)) → with_space l ≡ spaced l →
    asked_from (spaced l) (numbers_from v p) ≡ asked_pushed l (numbers_from v p)
unfolding numbers_from
numbers_pushed l v [] e = pushed-from l (number_from v []) (some []) e
numbers_pushed l v (f ∷ fs) e = pushed-from l (number_from v f) (numbers_of fs) e

-- ---- an unreadable line stays so

unreadable-pushed : (ns : List ℕ) → asked (pushed unreadable ns) ≡ none
unfolding pushed filled with_space asked is_asking every
unreadable-pushed [] = refl
unreadable-pushed (n ∷ ns) = unreadable-pushed ns

pub shut : (l : Line) (o : Option ℕ) (q : Option (List ℕ)) → with_space l ≡ unreadable → asked_pushed l (with_number o q) ≡ none
unfolding asked_pushed pushed filled
shut l none q e = refl
shut l (some n) none e = refl
shut l (some n) (some ns) e = ap (λ k. asked (pushed (filled k n) ns)) e ∙ unreadable-pushed ns

-- ---- a piece has at least one number

numbers_first : (P : Option (List ℕ) → Type 0) (b : ℕ) (p : List (List ℕ)) → ((o : Option ℕ) (q : Option (List ℕ)) → P (with_number o q)) → P (numbers_of (with_first b p))
unfolding numbers_of
numbers_first P b [] h = h (number_of (b ∷ [])) (some [])
numbers_first P b (f ∷ fs) h = h (number_of (b ∷ f)) (numbers_of fs)

-- What holds of a number and others holds of those of a line's pieces.
pub numbers_cut : (P : Option (List ℕ) → Type 0) (c : ℕ) (s : List ℕ) → ((o : Option ℕ) (q : Option (List ℕ)) → P (with_number o q)) → P (numbers_of (cut c s))
unfolding numbers_of cut
numbers_cut P c [] h = h (number_of []) (some [])
numbers_cut P c (b ∷ s) h =
    cond_cases (λ p. P (numbers_of p)) (eqb b c) (λ e. h (number_of []) (numbers_of (cut c s))) (λ e. numbers_first P b (cut c s) h)

-- ---- after the letter

-- The letter of a byte is read as one of the three exactly where the byte is that one's.
read_new : (b : ℕ) → is_read (letter_of b) letters.New ≡ eqb b 110
unfolding letter_of
read_new b =
    cond_cases (λ o. is_read o letters.New ≡ eqb b 110) (eqb b 110) (λ e. sym e)
    (λ n. cond_cases (λ o. is_read o letters.New ≡ eqb b 110) (eqb b 97) (λ e. sym n)
    (λ m. cond_cases (λ o. is_read o letters.New ≡ eqb b 110) (eqb b 102) (λ e. sym n) (λ e. sym n)))

read_allocate : (b : ℕ) → is_read (letter_of b) letters.Allocate ≡ eqb b 97
unfolding letter_of
read_allocate b =
    cond_cases (λ o. is_read o letters.Allocate ≡ eqb b 97) (eqb b 110) (λ e. sym (ne_eqb b 97 (λ q. omega (arith, eqb-true b 110 e))))
    (λ n. cond_cases (λ o. is_read o letters.Allocate ≡ eqb b 97) (eqb b 97) (λ e. sym e)
    (λ m. cond_cases (λ o. is_read o letters.Allocate ≡ eqb b 97) (eqb b 102) (λ e. sym m) (λ e. sym m)))

read_free : (b : ℕ) → is_read (letter_of b) letters.Free ≡ eqb b 102
unfolding letter_of
read_free b =
    cond_cases (λ o. is_read o letters.Free ≡ eqb b 102) (eqb b 110) (λ e. sym (ne_eqb b 102 (λ q. omega (arith, eqb-true b 110 e))))
    (λ n. cond_cases (λ o. is_read o letters.Free ≡ eqb b 102) (eqb b 97) (λ e. sym (ne_eqb b 102 (λ q. omega (arith, eqb-true b 97 e))))
    (λ m. cond_cases (λ o. is_read o letters.Free ≡ eqb b 102) (eqb b 102) (λ e. sym e) (λ e. sym e)))

-- No form has so many numbers.
no_form : (letter : ℕ) (ns : List ℕ) → (length ns ≡ 2 → ⊥) → (length ns ≡ 5 → ⊥) → (length ns ≡ 1 → ⊥) → asked_by letter ns ≡ none
unfolding asked_by every
no_form letter ns two five one =
    rw (
      ne_eqb (length ns) 2 two,
      ne_eqb (length ns) 5 five,
      ne_eqb (length ns) 1 one,
      cond_same (eqb letter 110) false,
      cond_same (eqb letter 97) false,
      cond_same (eqb letter 102) false,
    )

-- The numbers pushed in after a letter ask for what the letter and the numbers say.
pub letter_pushed : (letter : ℕ) (ns : List ℕ) → asked (pushed (lettered letter) ns) ≡ asked_by letter ns
unfolding pushed filled with_space asked is_asking asked_by every
letter_pushed letter [] = sym (no_form letter [] (λ e. omega arith) (λ e. omega arith) (λ e. omega arith))
letter_pushed letter (a ∷ []) = rw (read_new letter, read_allocate letter, read_free letter, cond_same (eqb letter 110) false, cond_same (eqb letter 97) false)
letter_pushed letter (a ∷ b ∷ []) = rw (read_new letter, read_allocate letter, read_free letter, cond_same (eqb letter 97) false, cond_same (eqb letter 102) false)
letter_pushed letter (a ∷ b ∷ c ∷ []) = rw (read_new letter, read_allocate letter, read_free letter, cond_same (eqb letter 110) false, cond_same (eqb letter 97) false, cond_same (eqb letter 102) false)
letter_pushed letter (a ∷ b ∷ c ∷ d ∷ []) = rw (read_new letter, read_allocate letter, read_free letter, cond_same (eqb letter 110) false, cond_same (eqb letter 97) false, cond_same (eqb letter 102) false)
letter_pushed letter (a ∷ b ∷ c ∷ d ∷ e ∷ []) = rw (read_new letter, read_allocate letter, read_free letter, cond_same (eqb letter 110) false, cond_same (eqb letter 102) false)
letter_pushed letter (a ∷ b ∷ c ∷ d ∷ e ∷ f ∷ ns) =
    unreadable-pushed ns ∙ sym (no_form letter (a ∷ b ∷ c ∷ d ∷ e ∷ f ∷ ns) (λ e. omega arith) (λ e. omega arith) (λ e. omega arith))

pub letter_asks : (letter : ℕ) (q : Option (List ℕ)) → asked_pushed (lettered letter) q ≡ asked_with letter q
unfolding asked_pushed
letter_asks letter none = refl
letter_asks letter (some ns) = letter_pushed letter ns

-- the first space after the letter is taken
pub letter_space : (letter : ℕ) → with_space (lettered letter) ≡ spaced (lettered letter)
unfolding with_space every
letter_space letter = refl

-- No other letter begins a call.
none_of : (t u w : Bool) → cond t true (cond u true w) ≡ false → (t ≡ false) × (u ≡ false) × (w ≡ false)
none_of true u w e = absurd (true≢false e)
none_of false true w e = absurd (true≢false e)
none_of false false w e = (refl, refl, e)

pub no_call : (letter : ℕ) (q : Option (List ℕ)) → is_letter letter ≡ false → asked_with letter q ≡ none
unfolding is_letter asked_by every
no_call letter none e = refl
no_call letter (some ns) e =
    let n : (eqb letter 110 ≡ false) × (eqb letter 97 ≡ false) × (eqb letter 102 ≡ false) = none_of (eqb letter 110) (eqb letter 97) (eqb letter 102) e in
    rw (n.0, n.1, n.2)
