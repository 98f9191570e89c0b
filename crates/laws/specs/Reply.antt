-- What a call answers: the values asked for, or a refusal's number. Assumes nothing.
use Rattle.std.specs.Prelude.{ℕ, ◌≡◌}
use Rattle.std.proofs.Common.{arith}

pub data Reply (A : Type 0) : Type 0 where
  accepted : A → Reply A
  refused : ℕ → Reply A

-- the number given back: 0 for an accepted call
abbrev pub number : {A : Type 0} → Reply A → ℕ
number (accepted a) = 0
number (refused n) = n

-- No call is both accepted and refused.
pub not_refused : {A : Type 0} {a : A} {n : ℕ} → accepted a ≡ refused n → ⊥
not_refused e = let z : ◌≡◌ {A = ℕ} 0 1 = cc in omega arith
