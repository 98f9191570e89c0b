-- When a walk is refused, with which number, and where a step leaves the place. Assumes nothing.
use Prim.Native.Nat.{ℕ, zero, suc, ◌+◌}
use mathlib.Core.List.{List, ◌∷◌}
use Rattle.std.specs.Prelude.{◌↔◌, ◌⊎◌, ◌≡◌, replicate, Option, None, Some}
use Rattle.std.proofs.Math.Path.{refl, ap}
use Rattle.laws.specs.Reply.{Reply, accepted, refused}
use Rattle.words.specs.Soundness.{Sound}
use Rattle.opening.specs.Looked.{TableWords}
use Rattle.opening.proofs.Exactly.{asked-refused-1, asked-refused-2, asked-refused}
use Rattle.leaks.specs.Leaks.{Live, handed_out, live_from, leak_on, place_after, step_on}
use Rattle.leaks.specs.Walked.{walk_on}

-- ---- what is answered from an address on

module _ (ws : List ℕ) (address : ℕ) where
  -- 1 exactly when the word count is not 4 + 7s.
  pub leak-refused-1 : leak_on ws address ≡ refused 1 ↔ (TableWords ws → ⊥)
  unfolding leak_on
  leak-refused-1 = asked-refused-1 (λ b. handed_out (live_from address b)) ws

  -- 2 exactly when it is, and the table is not sound.
  pub leak-refused-2 : leak_on ws address ≡ refused 2 ↔ (TableWords ws × (Sound ws → ⊥))
  unfolding leak_on
  leak-refused-2 = asked-refused-2 (λ b. handed_out (live_from address b)) ws

  -- No other number is given.
  pub leak-refused : (n : ℕ) → leak_on ws address ≡ refused n → (n ≡ 1) ⊎ (n ≡ 2)
  unfolding leak_on
  leak-refused = asked-refused (λ b. handed_out (live_from address b)) ws

-- ---- a step

module _ (ws : List ℕ) (place : ℕ) where
  -- A step from a place answers what is found from that address on.
  pub step-answers : (step_on ws place).0 ≡ leak_on ws place
  unfolding step_on
  step-answers = refl

  -- A refused step keeps the place.
  pub step-refused-keeps : (n : ℕ) → (step_on ws place).0 ≡ refused n → (step_on ws place).1 ≡ place
  unfolding step_on
  step-refused-keeps n e = ap (place_after place) e

  -- So does one that answers the end.
  pub step-end-keeps : (step_on ws place).0 ≡ accepted None → (step_on ws place).1 ≡ place
  unfolding step_on
  step-end-keeps e = ap (place_after place) e

  -- One that hands out a chunk moves the place to its end.
  pub step-live-moves : (l : Live) → (step_on ws place).0 ≡ accepted (Some l) → (step_on ws place).1 ≡ l.first_byte + l.size
  unfolding step_on
  step-live-moves l e = ap (place_after place) e

  -- Steps on words that are refused are all refused alike.
  pub walk_refused : (n m : ℕ) → leak_on ws place ≡ refused m → walk_on ws place n ≡ replicate n (refused m)
  unfolding step_on
  walk_refused zero m e = refl
  walk_refused (suc n) m e =
      rw e (ap (λ (r : List (Reply (Option Live))). refused m ∷ r) (walk_refused n m e))
