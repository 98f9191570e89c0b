-- What a text prints byte by byte, and what is kept of it. Assumes nothing.
use Rattle.std.specs.Prelude.{ℕ, cond, List, [], ◌∷◌, ◌++◌, ◌≡◌, refl, eqb}
use Rattle.std.proofs.Common.{append_assoc, sym, ap, ◌∙◌}
use Rattle.laws.specs.Tests.{cond_cases}
use Rattle.call_lines.specs.Reading.{fresh, fed, asked, is_begun}
use Rattle.call_lines.specs.declared.line.Line.{Line}
use Rattle.answer_lines.specs.Printed.{printed}
use Rattle.bench_step.specs.Kept.{AtHand}
use Rattle.bench_step.proofs.Kept.{answered-sound}
use Rattle.bench_step.specs.Step.{Outcome, answered}

-- the line so far, and the words of the block at hand
pub record State : Type 0 where
  pub line : Line
  pub words : List ℕ

-- ---- one byte

-- what the line comes to, if it ends here
abbrev pub comes : State → Outcome
comes s = answered (asked s.line) s.words

abbrev pub after : State → ℕ → State
after s b =
    cond (eqb b 10) (record { line = fresh; words = (comes s).1 }) (record { line = fed s.line b; words = s.words })

-- nothing, but at a line feed
abbrev pub tells : State → ℕ → List ℕ
tells s b = cond (eqb b 10) (printed (comes s).0) []

-- ---- many bytes

unfoldable pub after_all : State → List ℕ → State
after_all s [] = s
after_all s (b ∷ t) = after_all (after s b) t

unfoldable pub told : State → List ℕ → List ℕ
told s [] = []
told s (b ∷ t) = tells s b ++ told (after s b) t

-- a last line without a line feed, if it has a byte
unfoldable pub last_told : State → List ℕ
last_told s = cond (is_begun s.line) (printed (comes s).0) []

-- no byte read, and no block
abbrev pub start : State
start = record { line = fresh; words = [] }

-- ---- piece by piece

-- A text that comes in two pieces leaves what it leaves as one,
pub after-pieces : (s : State) (t u : List ℕ) → after_all s (t ++ u) ≡ after_all (after_all s t) u
unfolding after_all
after-pieces s [] u = refl
after-pieces s (b ∷ t) u = after-pieces (after s b) t u

-- and prints what it prints as one.
pub told-pieces : (s : State) (t u : List ℕ) → told s (t ++ u) ≡ told s t ++ told (after_all s t) u
unfolding after_all told
told-pieces s [] u = refl
told-pieces s (b ∷ t) u =
    ap (λ (x : List ℕ). tells s b ++ x) (told-pieces (after s b) t u)
    ∙ sym (append_assoc (tells s b) (told (after s b) t) (told (after_all (after s b) t) u))

-- ---- soundness

-- What is at hand within a text is no block, or a sound table.
pub text_sound : (s : State) (t : List ℕ) → AtHand s.words → AtHand (after_all s t).words
unfolding after_all
text_sound s [] h = h
text_sound s (b ∷ t) h =
    text_sound (after s b) t
    (cond_cases (λ (x : State). AtHand x.words) (eqb b 10) (λ e. answered-sound (asked s.line) s.words h) (λ e. h))
