-- That the walk hands out every live chunk once, by rising address, then the end. Assumes nothing.
use Rattle.std.specs.Prelude.{ℕ, zero, suc, ◌+◌, ◌≤◌, Bool, true, false, cond, ◌≡◌, refl, leb, length, replicate, Option, None, Some}
use Rattle.std.proofs.Common.{arith, sym, subst, ◌∙◌, leb-true, leb-false, le-leb}
use mathlib.Core.List.{List, [], ◌∷◌}
use Rattle.std.proofs.Math.Path.{ap}
use Rattle.std.proofs.lemmas.Bool.{lt-leb}
use Rattle.laws.specs.Lists.{All, Pairwise, all_map, all_of}
use Rattle.laws.specs.Reply.{Reply, accepted}
use Rattle.laws.specs.Tests.{cond_cases}
use Rattle.words.specs.Soundness.{Sound}
use Rattle.opening.specs.Looked.{TableWords}
use Rattle.leaks.specs.Leaks.{Live, place_after, step_on}
use Rattle.leaks.specs.Lives.{lives, from, Before, lives-rise, lives-sizes}
use Rattle.leaks.specs.Handed.{first_of}
use Rattle.leaks.specs.Walked.{walk_on, answers}
use Rattle.leaks.proofs.Handed.{leak_first}

-- ---- the chunks from an address on

from_all : (address : ℕ) (ls : List Live) → All (λ l. address ≤ l.first_byte) ls → from address ls ≡ ls
from_all address [] h = refl
from_all address (x ∷ ls) h =
    rw (le-leb address x.first_byte h.0) (ap (λ (r : List Live). x ∷ r) (from_all address ls h.1))

from-above : (address : ℕ) (ls : List Live) → All (λ l. address ≤ l.first_byte) (from address ls)
from-above address [] = tt
from-above address (x ∷ ls) =
    cond_cases (All (λ l. address ≤ l.first_byte)) (leb address x.first_byte)
    (λ e. (leb-true _ _ e, from-above address ls)) (λ e. from-above address ls)

-- those from the end of the first one on are the others
from_next : (address : ℕ) (ls : List Live) → Pairwise Before ls → All (λ l. 1 ≤ l.size) ls
    → (l : Live) (rest : List Live) → from address ls ≡ l ∷ rest → from (l.first_byte + l.size) ls ≡ rest
from_next address [] h z l rest e = let c : ◌≡◌ {A = ℕ} 0 1 = cc in absurd (omega arith)
from_next address (x ∷ ls) h z l rest e = go (leb address x.first_byte) refl (from_next address ls h.1 z.1 l rest) e
  where
    this : address ≤ x.first_byte → from (x.first_byte + x.size) (x ∷ ls) ≡ from address ls
    this a =
        rw (lt-leb (x.first_byte + x.size) x.first_byte (omega (arith, z.0)))
        (from_all (x.first_byte + x.size) ls h.0
        ∙ sym (from_all address ls (all_map {Q = λ y. address ≤ y.first_byte} (λ y (b : Before x y). omega arith) ls h.0)))

    go : (t : Bool) → leb address x.first_byte ≡ t → (from address ls ≡ l ∷ rest → from (l.first_byte + l.size) ls ≡ rest)
        → cond t (x ∷ from address ls) (from address ls) ≡ l ∷ rest
        → from (l.first_byte + l.size) (x ∷ ls) ≡ rest
    go true q f e =
        let p : x ≡ l = cc in
        let r : from address ls ≡ rest = cc in
        ap (λ (y : Live). from (y.first_byte + y.size) (x ∷ ls)) (sym p) ∙ this (leb-true _ _ q) ∙ r
    go false q f e =
        let a : address ≤ l.first_byte = (subst (All (λ y. address ≤ y.first_byte)) e (from-above address ls)).0 in
        rw (lt-leb (l.first_byte + l.size) x.first_byte (omega (arith, leb-false address x.first_byte q)))
        (f e)

-- ---- the theorems

module _ (ws : List ℕ) (t : TableWords ws) (s : Sound ws) where
  answer : (place : ℕ) (ls : List Live) → from place (lives ws) ≡ ls
      → step_on ws place ≡ (accepted (first_of ls), place_after place (accepted (first_of ls)))
  unfolding step_on
  answer place ls e =
      ap (λ (r : Reply (Option Live)). (r, place_after place r))
      (leak_first ws t s place ∙ ap (λ (r : List Live). accepted (first_of r)) e)

  end-again : (place n : ℕ) → from place (lives ws) ≡ [] → walk_on ws place n ≡ replicate n (accepted None)
  end-again place zero e = refl
  end-again place (suc n) e =
      rw (answer place [] e) (ap (λ (r : List (Reply (Option Live))). accepted None ∷ r) (end-again place n e))

  walks : (ls : List Live) (place n : ℕ) → from place (lives ws) ≡ ls → walk_on ws place (length ls + n) ≡ answers ls n
  walks [] place n e = let z : 0 + n ≡ n = omega arith in ap (walk_on ws place) z ∙ end-again place n e
  walks (l ∷ ls) place n e =
      let z : suc (length ls) + n ≡ suc (length ls + n) = omega arith in
      let f = from_next place (lives ws) (lives-rise ws t s) (lives-sizes ws t s) l ls e in
      ap (walk_on ws place) z
      ∙ rw (answer place (l ∷ ls) e)
      (ap (λ (r : List (Reply (Option Live))). accepted (Some l) ∷ r) (walks ls (l.first_byte + l.size) n f))

  -- Steps from any place hand out the live chunks that begin there or later, then the end, and the end again.
  pub walk_from : (place n : ℕ)
      → walk_on ws place (length (from place (lives ws)) + n) ≡ answers (from place (lives ws)) n
  walk_from place n = walks (from place (lives ws)) place n refl

  -- A walk hands out exactly the live chunks, once each and by rising address, then the end, and the end again.
  pub walk-all : (n : ℕ) → walk_on ws 0 (length (lives ws) + n) ≡ answers (lives ws) n
  walk-all n = walks (lives ws) 0 n (from_all 0 (lives ws) (all_of (λ l. 0 ≤ l.first_byte) (lives ws) (λ l m. omega arith)))
