-- A slot that was looked for, or none: slots are numbered from 1 to the last. Assumes nothing.
use Rattle.std.specs.Prelude.{◌≡◌, ℕ, zero, suc, ◌<◌, ◌≤◌, ltb, cond, true, false, ◌≢◌, Option, Some, None}
use Rattle.std.proofs.Common.{arith, ltb-true, ltb-false, refl}

-- the slot that a number says, none for 0
abbrev pub some_slot : ℕ → Option ℕ
some_slot zero = None
some_slot (suc k) = Some (suc k)

-- None is said by 0,
pub no_slot : (k : ℕ) → some_slot k ≡ None → k ≡ 0
no_slot zero e = refl
no_slot (suc k) e = absurd cc

-- and a slot by its own number, which is not 0.
pub one_slot : (k j : ℕ) → some_slot k ≡ Some j → (k ≡ j) × (j ≢ 0)
one_slot zero j e = absurd cc
one_slot (suc k) j e = let n : suc k ≡ j = cc in (n, λ z. omega (arith, n))

pub slot_some : (k : ℕ) → k ≢ 0 → Some k ≡ some_slot k
slot_some zero n = absurd (n refl)
slot_some (suc k) n = refl

-- the slot of a table with so many, none for a number past the last
unfoldable pub within : ℕ → ℕ → Option ℕ
within slots k = cond (ltb slots k) None (Some k)

module _ (slots k : ℕ) where
  -- None is said by a number past the last,
  pub not_within : within slots k ≡ None → slots < k
  unfolding within
  not_within e = elim (ltb slots k) as (λ t. ltb slots k ≡ t → cond t None (Some k) ≡ None → slots < k)
      [ true ↦ λ f g. ltb-true _ _ f | false ↦ λ f g. absurd cc ] refl e

  -- and a slot by its own number.
  pub is_within : (j : ℕ) → within slots k ≡ Some j → (k ≡ j) × (k ≤ slots)
  unfolding within
  is_within j e = elim (ltb slots k) as (λ t. ltb slots k ≡ t → cond t None (Some k) ≡ Some j → (k ≡ j) × (k ≤ slots))
      [ true ↦ λ f g. absurd cc | false ↦ λ f g. (cc, omega (arith, ltb-false)) ] refl e
