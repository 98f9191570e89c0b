-- On the way to `ReadLaws`: the bytes to come, one after the other, from each line that may be at hand. Assumes nothing.
use Rattle.std.specs.Prelude.{ℕ, ◌+◌, ◌-◌, ◌*◌, ◌^◌, ◌<◌, true, false, List, [], ◌∷◌, ◌≡◌, refl, eqb, length}
use Rattle.std.proofs.Common.{⊎_elim, sym, ap, ◌∙◌, arith, ne_eqb}
use Rattle.std.proofs.Math.Option.{Option, none, some}
use Rattle.laws.specs.Every.{cases}
use Rattle.laws.specs.Tests.{either, cond_cases, cond_same}
use Rattle.call_lines.specs.Format.{Asked, with_first, cut, fields, is_digit, number_of, numbers_of, asked_in, read_line}
use Rattle.call_lines.specs.Reading.{unreadable, lettered, numbered, spaced, with_space, is_letter, fed, fed_all, asked}
use Rattle.call_lines.specs.ReadSteps.{byte_cases, digit-high, digit-no_space, unreadable-asks, any_space, letter_other, number-digit, number-full, number-other, space_digit, space_space, space_other, space_asks, space_cases, numbers_from, from-digit, from-other, from_zero, from-whole, from-large}
use Rattle.call_lines.specs.Pushing.{pushed, asked_pushed, asked_from, from-pushed, numbers_pushed, shut, numbers_cut, letter_asks, letter_space, no_call}
use Rattle.call_lines.specs.declared.line.Line.{Line}

-- ---- the first byte of those to come

-- it leads to the line k, and k's answer is the one that is expected
pub next : (l k : Line) (b : ℕ) (s : List ℕ) {o : Option Asked} → fed l b ≡ k → asked (fed_all k s) ≡ o → asked (fed_all l (b ∷ s)) ≡ o
unfolding fed_all
next l k b s e t = ap (λ i. asked (fed_all i s)) e ∙ t

-- it makes the line unreadable, and nothing is expected
pub dead : (l : Line) (b : ℕ) (s : List ℕ) {o : Option Asked} → fed l b ≡ unreadable → o ≡ none → asked (fed_all l (b ∷ s)) ≡ o
dead l b s e t = next l unreadable b s e (unreadable-asks s ∙ sym t)

-- it parts two fields, or belongs to the first
cut-space : (b : ℕ) (s : List ℕ) → eqb b 32 ≡ true → cut 32 (b ∷ s) ≡ [] ∷ cut 32 s
unfolding cut
cut-space b s e = rw e

pub cut-other : (b : ℕ) (s : List ℕ) → eqb b 32 ≡ false → cut 32 (b ∷ s) ≡ with_first b (cut 32 s)
unfolding cut
cut-other b s n = rw n

-- ---- numbers

-- the number at hand is whole
whole : (l : Line) (v b : ℕ) (s : List ℕ) → v < 2 ^ 64 → eqb b 32 ≡ true →
    asked_from l (numbers_from v (cut 32 (b ∷ s))) ≡ asked_pushed (numbered l v) (numbers_of (cut 32 s))
whole l v b s h e =
    ap (asked_from l) (ap (numbers_from v) (cut-space b s e) ∙ from-whole v (cut 32 s) h) ∙ from-pushed l v (numbers_of (cut 32 s))

-- a digit more of the number at hand
longer : (v b : ℕ) (s : List ℕ) → is_digit b ≡ true → numbers_from v (cut 32 (b ∷ s)) ≡ numbers_from (v * 10 + (b - 48)) (cut 32 s)
longer v b s d = ap (numbers_from v) (cut-other b s (digit-no_space b d)) ∙ from-digit v b (cut 32 s) d

-- the field has another byte
spoilt : (v b : ℕ) (s : List ℕ) → is_digit b ≡ false → eqb b 32 ≡ false → numbers_from v (cut 32 (b ∷ s)) ≡ none
spoilt v b s d n = ap (numbers_from v) (cut-other b s n) ∙ from-other v b (cut 32 s) d

-- a field with a byte
begun : (b : ℕ) (s : List ℕ) → eqb b 32 ≡ false → numbers_of (cut 32 (b ∷ s)) ≡ numbers_from 0 (cut 32 (b ∷ s))
begun b s n = rw (cut-other b s n) (from_zero b (cut 32 s))

mutual
  unfolding fed_all cut numbers_of number_of asked_from asked_pushed pushed

  -- From inside a number.
  in-number : (s : List ℕ) (l : Line) (v : ℕ) → v < 2 ^ 64 → asked (fed_all (numbered l v) s) ≡ asked_from l (numbers_from v (cut 32 s))
  in-number [] l v h = sym (ap (asked_from l) (from-whole v [] h))
  in-number (b ∷ s) l v h =
      byte_cases _ b
      (λ d. either _ (v * 10 + (b - 48)) (2 ^ 64)
      (λ k. next (numbered l v) (numbered l (v * 10 + (b - 48))) b s (number-digit l v b d k) (in-number s l (v * 10 + (b - 48)) k ∙ sym (ap (asked_from l) (longer v b s d))))
      (λ k. dead (numbered l v) b s (number-full l v b d k) (ap (asked_from l) (longer v b s d ∙ from-large (v * 10 + (b - 48)) (cut 32 s) k))))
      (λ e. space_cases _ (numbered l v)
      (λ t. next (numbered l v) (spaced (numbered l v)) b s (any_space (numbered l v) b e ∙ t) (after-space s (numbered l v) t ∙ sym (whole l v b s h e)))
      (λ t. dead (numbered l v) b s (any_space (numbered l v) b e ∙ t)
      (whole l v b s h e ∙ numbers_cut (λ q. asked_pushed (numbered l v) q ≡ none) 32 s (λ o q. shut (numbered l v) o q t))))
      (λ d n. dead (numbered l v) b s (number-other l v b d n) (ap (asked_from l) (spoilt v b s d n)))

  -- From a space on that was taken.
  after-space : (s : List ℕ) (l : Line) → with_space l ≡ spaced l → asked (fed_all (spaced l) s) ≡ asked_pushed l (numbers_of (cut 32 s))
  after-space [] l t = space_asks l
  after-space (b ∷ s) l t =
      byte_cases _ b
      (λ d. next (spaced l) (numbered (spaced l) (0 * 10 + (b - 48))) b s (space_digit l b d)
      (in-number s (spaced l) (0 * 10 + (b - 48)) (omega (arith, digit-high b d)) ∙ numbers_pushed l (0 * 10 + (b - 48)) (cut 32 s) t
      ∙ sym (ap (asked_pushed l) (begun b s (digit-no_space b d) ∙ longer 0 b s d))))
      (λ e. dead (spaced l) b s (any_space (spaced l) b e ∙ space_space l) (ap (λ p. asked_pushed l (numbers_of p)) (cut-space b s e)))
      (λ d n. dead (spaced l) b s (space_other l b d n) (ap (asked_pushed l) (begun b s n ∙ spoilt 0 b s d n)))

-- ---- the letter

-- two bytes before the first space are no letter
two_bytes : (b c : ℕ) (p : List (List ℕ)) → asked_in (with_first b (with_first c p)) ≡ none
unfolding asked_in
two_bytes b c [] = refl
two_bytes b c (f ∷ fs) = rw (ne_eqb (length (b ∷ c ∷ f)) 1 (λ e. omega arith))

-- From the letter on.
pub after-letter : (s : List ℕ) (letter : ℕ) → asked (fed_all (lettered letter) s) ≡ asked_in (with_first letter (cut 32 s))
unfolding fed_all cut asked_in numbers_of asked_pushed pushed
after-letter [] letter = letter_asks letter (some [])
after-letter (b ∷ s) letter =
    ⊎_elim
    (λ e. next (lettered letter) (spaced (lettered letter)) b s (any_space (lettered letter) b e ∙ letter_space letter)
    (after-space s (lettered letter) (letter_space letter) ∙ letter_asks letter (numbers_of (cut 32 s))
    ∙ sym (ap (λ p. asked_in (with_first letter p)) (cut-space b s e))))
    (λ n. dead (lettered letter) b s (letter_other letter b n)
    (ap (λ p. asked_in (with_first letter p)) (cut-other b s n) ∙ two_bytes letter b (cut 32 s)))
    (cases (eqb b 32))

-- a first field that is no letter asks for nothing
unknown : (letter : ℕ) (p : List (List ℕ)) → is_letter letter ≡ false → asked_in (with_first letter p) ≡ none
unfolding asked_in
unknown letter [] e = no_call letter (numbers_of []) e
unknown letter (f ∷ fs) e = rw (no_call letter (numbers_of fs) e) (cond_same (eqb (length (letter ∷ f)) 1) none)

pub unread : (b : ℕ) (s : List ℕ) → is_letter b ≡ false → read_line (b ∷ s) ≡ none
unfolding read_line fields cut asked_in
unread b s e = cond_cases (λ p. asked_in p ≡ none) (eqb b 32) (λ t. refl) (λ n. unknown b (cut 32 s) e)
