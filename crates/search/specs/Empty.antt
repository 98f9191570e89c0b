-- The lowest empty slot of a sound table is the lowest one with id 0. Assumes nothing.
use Rattle.std.specs.Prelude.{◌≡◌, ℕ, zero, suc, ◌+◌, ◌<◌, ◌≤◌, Bool, true, false, cond, not, List, [], ◌∷◌, ◌==◌, nat_eq, slice_index, refl}
use Rattle.std.proofs.Common.{le_refl, arith, ⊎_elim, sym, ap, ◌∙◌, ne_eqb}
use Rattle.laws.specs.Every.{cases}
use Rattle.laws.specs.Lists.{All, all_map}
use Rattle.laws.specs.Members.{has}
use Rattle.model.specs.Block.{Chunk, Block}
use Rattle.model.specs.Placing.{uses_slot, empty_slot, new_slot}
use Rattle.model.proofs.Slots.{new_slot_lem}
use Rattle.table.specs.Layout.{slot_count, id_at}
use Rattle.words.specs.Words.{row_at, chunks_of, block_of, slots_of, sound}
use Rattle.words.proofs.Spots.{slot_unused}
use Rattle.words.proofs.Written.{known}
use Rattle.search.specs.Scan.{slot_from, slot_with}

-- ---- for whoever takes the slot

-- No chunk is in the lowest empty slot, where the table has one, and it is a slot's number.
pub new_slot-empty : (b : Block) → new_slot b ≤ b.slots → (1 ≤ new_slot b) × (has (new_slot b) (slots_of b.chunks) ≡ false)
new_slot-empty b l =
    let h = new_slot_lem b in
    (h.from, slot_unused (new_slot b) b.chunks (h.empty (omega arith)))

-- ---- the scan

-- whether a chunk is in a slot, by the id in its row
used_row : (prev first : ℕ) (cs : List Chunk) (k : ℕ) → All (λ c. 1 ≤ c.id) cs
    → uses_slot k cs ≡ not (slice_index (row_at prev first cs k) 0 == 0)
unfolding row_at
used_row prev first [] k a = refl
used_row prev first (c ∷ cs) k a =
    ⊎_elim
    (λ e.
    let n : nat_eq c.id 0 ≡ false = ne_eqb c.id 0 (λ (z : c.id ≡ 0). omega (arith, a.0)) in
    rw e (sym (ap not n)))
    (λ e. rw e (used_row c.slot (first + c.size) cs k a.1))
    (cases (c.slot == k))

-- the scan for an empty slot, where an id of 0 is that of a slot that no chunk is in
scan : (ws : List ℕ) (cs : List Chunk) (many k : ℕ)
    → ((j : ℕ) → k ≤ j → j < k + many → uses_slot j cs ≡ not (id_at ws j == 0))
    → slot_from ws 0 many k ≡ empty_slot many k cs
unfolding slot_from
scan ws cs zero k f = refl
scan ws cs (suc many) k f =
    rw (f k (le_refl k) (omega arith), scan ws cs many (suc k) (λ j a b. f j (omega arith) (omega arith)))
    (turned (id_at ws k == 0) k (empty_slot many (suc k) cs))
  where
    turned : (t : Bool) (x y : ℕ) → cond t x y ≡ cond (not t) y x
    turned true x y = refl
    turned false x y = refl

-- In a sound table the lowest slot with id 0 is the lowest empty one.
pub empty_scan : (ws : List ℕ) → sound ws ≡ true → slot_with ws 0 ≡ new_slot (block_of ws)
unfolding slot_with block_of
empty_scan ws s =
    let h = known ws s in
    scan ws (chunks_of ws) (slot_count ws) 1
    (λ j a b.
    used_row 0 0 (chunks_of ws) j (all_map (λ c p. p.0) (chunks_of ws) h.block.ids)
    ∙ ap (λ (l : List ℕ). not (slice_index l 0 == 0)) (sym (h.rows j a (omega arith))))
