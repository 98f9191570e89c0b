-- The lowest slot with an id, looked for from slot 1 on. Assumes nothing.
use Rattle.std.specs.Prelude.{◌≡◌, ℕ, zero, suc, ◌+◌, ◌<◌, ◌≤◌, cond, ◌≢◌, ◌⊎◌, List, ◌==◌}
use Rattle.std.proofs.Common.{le_refl, eq-or-lt_of_le, arith, inl, inr, eqb-true}
use Rattle.std.proofs.lemmas.Bool.{eqb-false}
use Rattle.laws.specs.Tests.{cond_cases}
use Rattle.table.specs.Layout.{slot_count, id_at}

-- the lowest of so many slots from k on whose id is the one given, or the one past them
unfoldable pub slot_from : List ℕ → ℕ → ℕ → ℕ → ℕ
slot_from ws id zero k = k
slot_from ws id (suc many) k = cond (id_at ws k == id) k (slot_from ws id many (suc k))

-- the lowest slot of the table with the id, or one past the last
unfoldable pub slot_with : List ℕ → ℕ → ℕ
slot_with ws id = slot_from ws id (slot_count ws) 1

-- m is the lowest of the `many` slots from k on with the id, or the one past them
pub record LowestWith (ws : List ℕ) (id many k m : ℕ) : Type 0 where
  pub from : k ≤ m
  pub below : (j : ℕ) → k ≤ j → j < m → id_at ws j ≢ id
  pub has : m < k + many → id_at ws m ≡ id

lowest_from : (ws : List ℕ) (id many k : ℕ) → LowestWith ws id many k (slot_from ws id many k)
unfolding slot_from
lowest_from ws id zero k = record {
  from = le_refl k;
  below = λ j a b. absurd (omega arith);
  has = λ a. absurd (omega arith);
}
lowest_from ws id (suc many) k =
    let later = lowest_from ws id many (suc k) in
    cond_cases (LowestWith ws id (suc many) k) (id_at ws k == id)
    (λ e. record { from = le_refl k; below = λ j a b. absurd (omega arith); has = λ a. eqb-true _ _ e })
    (λ e. record {
      from = omega (arith, later.from);
      below = λ j a b. this (eqb-false _ _ e) j (later.below j) b (eq-or-lt_of_le a);
      has = λ a. later.has (omega arith);
    })
  where
    this : id_at ws k ≢ id → (j : ℕ) → (suc k ≤ j → j < slot_from ws id many (suc k) → id_at ws j ≢ id)
        → j < slot_from ws id many (suc k) → (k ≡ j) ⊎ (k < j) → id_at ws j ≢ id
    this n j f b (inl q) = rw (← q) n
    this n j f b (inr l) = f l b

-- The slot is the lowest with the id: no lower one from 1 on has it, and it has it, if the table has the slot.
pub lowest_with : (ws : List ℕ) (id : ℕ) → LowestWith ws id (slot_count ws) 1 (slot_with ws id)
unfolding slot_with
lowest_with ws id = lowest_from ws id (slot_count ws) 1
