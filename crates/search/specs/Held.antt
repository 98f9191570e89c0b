-- A slot of a table that holds a chunk: its words, its neighbours, and where it ends. Assumes nothing.
use Rattle.std.specs.Prelude.{◌≡◌, ℕ, ◌+◌, ◌^◌, ◌<◌, ◌≤◌, true, ◌≢◌, List, ◌∷◌, slice_index}
use Rattle.std.proofs.Common.{arith, sym, ap, ◌∙◌}
use Rattle.model.specs.Block.{Spot, total, largest_block}
use Rattle.model.specs.Sums.{total-cut}
use Rattle.table.specs.Layout.{Slot, size_at, first_byte_at, kind_at}
use Rattle.words.specs.Words.{block_of, sound}
use Rattle.words.specs.Spots.{InSlot}
use Rattle.words.proofs.Spots.{in_table, in_words, in_all, used-spot}
use Rattle.words.proofs.Written.{known}

-- slot k holds a chunk
abbrev pub HeldIn : List ℕ → ℕ → Type 0
HeldIn ws k = (z : Spot) × InSlot ws k z

module _ (ws : List ℕ) (k : ℕ) (z : Spot) (h : InSlot ws k z) where
  -- It has a byte, and ends at or below 2^40.
  pub in_bytes : sound ws ≡ true → (1 ≤ size_at ws k) × (first_byte_at ws k + size_at ws k ≤ largest_block)
  in_bytes s =
      let b = (known ws s).block in
      let w = in_words h in
      let p : total z.left + total (z.chunk ∷ z.right) ≡ (block_of ws).size =
      sym (total-cut z.left (z.chunk ∷ z.right)) ∙ ap total h.cut ∙ b.whole in
      (omega (arith, in_all h (λ c. 1 ≤ c.size) b.sizes, w.size), omega (arith, b.size.1, w.size, w.begins))

-- A slot with a kind holds a chunk.
pub held_kind : (ws : List ℕ) → sound ws ≡ true → (k : ℕ) → Slot ws k → kind_at ws k ≢ 0 → HeldIn ws k
held_kind ws s k l n = used-spot ws s k (l, λ q. n (ap (λ (r : List ℕ). slice_index r 3) q))

-- The table has the slot.
pub held_slot : {ws : List ℕ} {k : ℕ} → HeldIn ws k → Slot ws k
held_slot {ws} {k} h = in_table ws k h.0 h.1

-- The chunk has an end, of any 64-bit word's size: x and y are its first byte and its size.
pub held_end : {ws : List ℕ} {k x y : ℕ} → HeldIn ws k → sound ws ≡ true → x ≡ first_byte_at ws k → y ≡ size_at ws k
    → (0 < x + y) × (x + y < 2 ^ 64)
held_end {ws} {k} h s a b = let p = in_bytes ws k h.0 h.1 s in (omega arith, omega arith)

-- It begins at or below 2^40.
pub held_low : {ws : List ℕ} {k x : ℕ} → HeldIn ws k → sound ws ≡ true → x ≡ first_byte_at ws k → x ≤ largest_block
held_low {ws} {k} h s a = let p = in_bytes ws k h.0 h.1 s in omega arith
