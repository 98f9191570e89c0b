-- The slot that a new chunk takes. Theorems. Assumes nothing.
use Rattle.std.specs.Prelude.{ℕ, zero, suc, ◌≤◌, ◌<◌, Bool, true, false, cond, ◌↔◌, ◌≢◌, ◌⊎◌, ◌≡◌, refl, eqb}
use Rattle.std.proofs.Common.{le_refl, eq-or-lt_of_le, arith, true≢false, inl, inr, eqb-true}
use Rattle.std.proofs.lemmas.Bool.{false≢true, eqb-false}
use mathlib.Core.List.{List, [], ◌∷◌, Memᴰ}
use Rattle.laws.specs.Lists.{all_at}
use Rattle.laws.specs.Tests.{cond_cases, either}
use Rattle.model.specs.Block.{Chunk, Block}
use Rattle.model.specs.Placing.{uses_slot, empty_slot, new_slot}
use Rattle.model.specs.Slots.{Used, Unused, LowestEmpty}

used : (n : ℕ) (cs : List Chunk) → uses_slot n cs ≡ true → Used n cs
used n [] e = absurd (false≢true e)
used n (c ∷ cs) e = go (eqb c.slot n) refl e (used n cs)
  where
    go : (t : Bool) → eqb c.slot n ≡ t → cond t true (uses_slot n cs) ≡ true
        → (uses_slot n cs ≡ true → Used n cs) → Used n (c ∷ cs)
    go true q w f = (c, Memᴰ.head refl, eqb-true _ _ q)
    go false q w f = let u = f w in (u.0, Memᴰ.tail u.1, u.2)

unused : (n : ℕ) (cs : List Chunk) → uses_slot n cs ≡ false → Unused n cs
unused n [] e = tt
unused n (c ∷ cs) e = go (eqb c.slot n) refl e (unused n cs)
  where
    go : (t : Bool) → eqb c.slot n ≡ t → cond t true (uses_slot n cs) ≡ false
        → (uses_slot n cs ≡ false → Unused n cs) → Unused n (c ∷ cs)
    go true q w f = absurd (true≢false w)
    go false q w f = (eqb-false _ _ q, f w)

lowest_empty : (cs : List Chunk) (many n : ℕ) → LowestEmpty cs many n (empty_slot many n cs)
lowest_empty cs zero n = record {
  from = le_refl n;
  to = omega arith;
  below = λ k a b. absurd (omega arith);
  empty = λ a. absurd (omega arith);
}
lowest_empty cs (suc many) n =
    let later = lowest_empty cs many (suc n) in
    cond_cases (LowestEmpty cs (suc many) n) (uses_slot n cs)
    (λ e. record {
      from = omega (arith, later.from);
      to = omega (arith, later.to);
      below = λ k a b. this e k (later.below k) b (eq-or-lt_of_le a);
      empty = λ a. later.empty (omega arith);
    })
    (λ e. record { from = le_refl n; to = omega arith; below = λ k a b. absurd (omega arith); empty = λ a. unused n cs e })
  where
    this : uses_slot n cs ≡ true → (k : ℕ) → (suc n ≤ k → k < empty_slot many (suc n) cs → Used k cs)
        → k < empty_slot many (suc n) cs → (n ≡ k) ⊎ (n < k) → Used k cs
    this e k f b (inl q) = rw (← q) (used n cs e)
    this e k f b (inr l) = f l b

-- A new chunk's slot is the lowest empty one: every lower slot from 1 on is used, and it is not, if the table has it.
pub new_slot_lem : (b : Block) → LowestEmpty b.chunks b.slots 1 (new_slot b)
new_slot_lem b = lowest_empty b.chunks b.slots 1

-- It lies past the last slot exactly when every slot is used.
pub no_empty_slot : (b : Block) → (b.slots < new_slot b) ↔ ((k : ℕ) → 1 ≤ k → k ≤ b.slots → Used k b.chunks)
no_empty_slot b = (λ l k a c. (new_slot_lem b).below k a (omega arith), λ f. full f)
  where
    full : ((k : ℕ) → 1 ≤ k → k ≤ b.slots → Used k b.chunks) → b.slots < new_slot b
    full f =
        either (b.slots < new_slot b) b.slots (new_slot b) (λ l. l)
        (λ l.
        let u = f (new_slot b) (new_slot_lem b).from l in
        let n = (new_slot_lem b).empty (omega arith) in
        absurd (all_at (λ c. c.slot ≢ new_slot b) b.chunks n u.0 u.1 u.2))
