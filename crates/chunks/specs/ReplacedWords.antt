-- A chunk that gives way to another of its slot and size, as words: the row of its slot changes, and allocated.
-- Assumes nothing.
use Rattle.std.specs.Prelude.{ℕ, ◌+◌, ◌≤◌, ◌<◌, List, ◌∷◌, ◌≢◌, ◌≡◌, set}
use native.Mathlib.Omega.{arith}
use Rattle.std.proofs.Common.{⊎_elim, ap, ◌∙◌}
use Rattle.std.proofs.Math.Path.{sym}
use Rattle.std.proofs.Math.ListN.{length, length-set}
use Rattle.std.proofs.Math.Seq.{get_or-set_same, get_or-set_other}
use Rattle.laws.specs.Members.{eq_or_not}
use Rattle.model.specs.Block.{Chunk, Spot, first, live_size, allocated}
use Rattle.model.specs.Effects.{replaced}
use Rattle.model.specs.Placing.{with_chunks}
use Rattle.model.specs.Sums.{allocated-cut}
use Rattle.table.specs.Layout.{Slot, allocated_word, row}
use Rattle.stores.specs.Stores.{OnlySlot, row-head_set}
use Rattle.words.specs.Words.{slot_of, row_of, row_at, encode, block_of}
use Rattle.words.proofs.Rows.{written}
use Rattle.words.specs.Spots.{InSlot}
use Rattle.words.proofs.Spots.{slot_unused, in_table}
use Rattle.chunks.specs.Sides.{row_at-cut, row-swapped, first-kept, left-apart, row-of-table, allocated-of-table, first-of-table, length-of-table}

module _ {ws : List ℕ} {k : ℕ} {z : Spot} (h : InSlot ws k z) (d : Chunk) where
  -- the live bytes rise by those of the new chunk and fall by those of the old one
  live-bytes : allocated_word ws + live_size d ≡ allocated (replaced z d) + live_size z.chunk
  live-bytes =
      omega (arith, allocated-of-table h, allocated-cut z.left (z.chunk ∷ z.right), allocated-cut z.left (d ∷ z.right))

  -- every row
  each_row : (ws' : List ℕ) → z.chunk.slot ≡ d.slot → z.chunk.size ≡ d.size
      → row ws' k ≡ row_of (slot_of z.left) (first z) (slot_of z.right) d
      → ((i : ℕ) → 1 ≤ i → i ≢ k → row ws' i ≡ row ws i)
      → (i : ℕ) → Slot ws i → row ws' i ≡ row_at 0 0 (replaced z d) i
  each_row ws' e s here others i slot =
      let at-k : d.slot ≡ k = sym e ∙ h.slot in
      ⊎_elim
      (λ (x : i ≡ k).
      ap (row ws') x ∙ here
      ∙ sym (row_at-cut d z.left z.right (slot_unused d.slot z.left (rw at-k (left-apart h))))
      ∙ ap (row_at 0 0 (replaced z d)) (at-k ∙ sym x))
      (λ f.
      others i slot.0 f ∙ row-of-table h i slot
      ∙ row-swapped z.left z.chunk d z.right i e s (λ x. f (sym x ∙ h.slot)))
      (eq_or_not i k)

  -- With its row in the chunk's slot, and the live bytes in the head, the words are the block with the new chunk.
  pub replaced-written : (v : ℕ) (ws' : List ℕ) → z.chunk.slot ≡ d.slot → z.chunk.size ≡ d.size
      → v + live_size z.chunk ≡ allocated_word ws + live_size d
      → OnlySlot (set ws 1 v) ws' k (row_of (slot_of z.left) (first z) (slot_of z.right) d)
      → ws' ≡ encode (with_chunks (block_of ws) (replaced z d))
  unfolding block_of
  replaced-written v ws' e s live o =
      let t = in_table ws k z h in
      let n : 1 < length ws = omega arith in
      sym
      (written ws' (with_chunks (block_of ws) (replaced z d))
      (o.count ∙ length-set ws 1 v ∙ length-of-table h)
      (o.head 0 (omega arith) ∙ get_or-set_other ws 1 0 v 0 (λ x. omega arith))
      (o.head 1 (omega arith) ∙ get_or-set_same ws 1 v 0 n ∙ omega (arith, live-bytes))
      (o.head 2 (omega arith) ∙ get_or-set_other ws 1 2 v 0 (λ x. omega arith))
      (o.head 3 (omega arith) ∙ get_or-set_other ws 1 3 v 0 (λ x. omega arith) ∙ first-of-table h
      ∙ first-kept z.left (z.chunk ∷ z.right) (d ∷ z.right) e)
      (λ i low high.
      each_row ws' e s o.here (λ j l f. o.others j l f ∙ row-head_set ws 1 v j (omega arith)) i (low, high)))
