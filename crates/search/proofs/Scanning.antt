-- What a search through the slots finds is the lowest slot with the id. Assumes nothing.
use Rattle.std.proofs.Common.{◌≡◌, ℕ, ◌+◌, ◌<◌, ◌≤◌, ◌≢◌, List, Option, Some, None, MatchOption, refl, arith, lt-ltb, le-ltb}
use Rattle.laws.specs.Tests.{either}
use Rattle.table.specs.Layout.{slot_count, id_at}
use Rattle.search.specs.Scan.{slot_with, lowest_with}
use Rattle.search.specs.Slots.{within}

module _ (ws : List ℕ) (id slots : ℕ) (all : slots ≡ slot_count ws) where
  abbrev m : ℕ
  m = slot_with ws id

  abbrev Without : ℕ → Type 0
  Without k = id_at ws k ≢ id

  abbrev Lowest : ℕ → Type 0
  Lowest i = (1 ≤ i) × (i < slots + 1) × (id_at ws i ≡ id) × ((k : ℕ) → 1 ≤ k → k < i → Without k)

  same : (i : ℕ) → Lowest i → m ≡ i
  same i h =
      let l = lowest_with ws id in
      either _ m i
      (λ below. absurd (h.3 m l.from below (l.has (omega arith))))
      (λ up.
      either _ i m
      (λ above. absurd (l.below i h.0 above h.2))
      (λ down. omega arith))

  -- What is found is the lowest of the slots with the id, or none of them has it.
  pub found_within : (r : Option ℕ)
      → MatchOption r ((k : ℕ) → 1 ≤ k → k < slots + 1 → Without k) Lowest
      → r ≡ within (slot_count ws) m
  unfolding within
  found_within None h =
      let l = lowest_with ws id in
      either _ (slot_count ws) m
      (λ past. rw (lt-ltb (slot_count ws) m past) refl)
      (λ in_table. absurd (h m l.from (omega arith) (l.has (omega arith))))
  found_within (Some i) h =
      let e = same i h in
      rw e (rw (le-ltb (slot_count ws) i (omega (arith, h.1))) refl)
