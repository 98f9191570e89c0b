-- No two refusals have one number, none has that of an accepted call, and two answers that stand for one reply are equal. Assumes nothing.
use Rattle.std.specs.Prelude.{ℕ, eqb, cond, ◌≢◌, ◌≡◌, refl, Result, Ok, Err}
use Rattle.std.proofs.Common.{sym, ap, ◌∙◌}
use Rattle.laws.specs.Reply.{Reply, number}
use Rattle.refusals.specs.declared.Refusal.{Refusal}
use Rattle.refusals.specs.declared.Refusal.TheVariants as refusal
use Rattle.refusals.specs.Refusals.{number_of, reply}

-- No refusal has the number of an accepted call.
pub number-positive : (r : Refusal) → number_of r ≢ 0
number-positive refusal.WordCount e = cc
number-positive refusal.Unsound e = cc
number-positive refusal.ZeroSize e = cc
number-positive refusal.Alignment e = cc
number-positive refusal.Granularity e = cc
number-positive refusal.Kind e = cc
number-positive refusal.NoRoom e = cc
number-positive refusal.NoId e = cc
number-positive refusal.NoSlot e = cc
number-positive refusal.UnknownId e = cc
number-positive refusal.Occupied e = cc
number-positive refusal.OtherSize e = cc
number-positive refusal.BlockSize e = cc
number-positive refusal.Sizes e = cc
number-positive refusal.Amount e = cc
number-positive refusal.ShortBuffer e = cc
number-positive refusal.NotId1 e = cc

-- the refusal with a number: the last one where no other has it
abbrev named : ℕ → Refusal
named n = cond (eqb n 1) refusal.WordCount (cond (eqb n 2) refusal.Unsound (cond (eqb n 3) refusal.ZeroSize (cond (eqb n 4) refusal.Alignment (cond (eqb n 5) refusal.Granularity (cond (eqb n 6) refusal.Kind (cond (eqb n 7) refusal.NoRoom (cond (eqb n 8) refusal.NoId (cond (eqb n 9) refusal.NoSlot (cond (eqb n 10) refusal.UnknownId (cond (eqb n 11) refusal.Occupied (cond (eqb n 12) refusal.OtherSize (cond (eqb n 13) refusal.BlockSize (cond (eqb n 14) refusal.Sizes (cond (eqb n 15) refusal.Amount (cond (eqb n 16) refusal.ShortBuffer refusal.NotId1)))))))))))))))

named-number : (r : Refusal) → named (number_of r) ≡ r
named-number refusal.WordCount = refl
named-number refusal.Unsound = refl
named-number refusal.ZeroSize = refl
named-number refusal.Alignment = refl
named-number refusal.Granularity = refl
named-number refusal.Kind = refl
named-number refusal.NoRoom = refl
named-number refusal.NoId = refl
named-number refusal.NoSlot = refl
named-number refusal.UnknownId = refl
named-number refusal.Occupied = refl
named-number refusal.OtherSize = refl
named-number refusal.BlockSize = refl
named-number refusal.Sizes = refl
named-number refusal.Amount = refl
named-number refusal.ShortBuffer = refl
named-number refusal.NotId1 = refl

-- Two refusals with one number are one.
pub one_refusal : (r q : Refusal) → number_of r ≡ number_of q → r ≡ q
one_refusal r q e = sym (named-number r) ∙ ap named e ∙ named-number q

-- Two answers that stand for the same reply are equal: of every call.
pub one_reply : {A : Type 0} → (a b : Result A Refusal) → reply a ≡ reply b → a ≡ b
one_reply (Ok a) (Ok b) e = cc
one_reply (Ok a) (Err q) e = cc
one_reply (Err r) (Ok b) e = cc
one_reply (Err r) (Err q) e = ap Err (one_refusal r q (ap number e))

-- A statement that gives the reply and what is left allows one answer and one thing left.
pub one_outcome : {A W : Type 0} → (call : Reply A × W) (a b : Result A Refusal) (v u : W)
    → (reply a, v) ≡ call → (reply b, u) ≡ call → (a ≡ b) × (v ≡ u)
one_outcome call a b v u p q =
    let e = p ∙ sym q in
    (one_reply a b (ap (λ (x : Reply _ × _). x.0) e), ap (λ (x : Reply _ × _). x.1) e)
