-- The rows of a list of chunks that is cut in two: what either side says of them, whatever stands on the other. Assumes nothing.
use Rattle.std.specs.Prelude.{ℕ, ◌+◌, ◌≤◌, true, false, ◌≢◌, ◌≡◌, refl}
use Rattle.std.proofs.Common.{arith, ⊎_elim, sym, ◌∙◌}
use mathlib.Core.List.{List, [], ◌∷◌, reverse_aux}
use Rattle.std.proofs.Math.Path.{ap}
use Rattle.std.proofs.Math.ListN.{length}
use Rattle.laws.specs.Cuts.{cut_all, cut-pairs}
use Rattle.laws.specs.Every.{cases}
use Rattle.laws.specs.Lists.{All, Pairwise, all_map}
use Rattle.laws.specs.Members.{has, has-none, has-cases, has_other}
use Rattle.model.specs.Block.{Chunk, Spot, total, allocated}
use Rattle.model.specs.Effects.{chunks_of}
use Rattle.model.specs.Soundness.{DifferentSlots}
use Rattle.table.specs.Layout.{word_count, slot_count, Slot, allocated_word, first_slot, next_at, previous_at, row}
use Rattle.words.specs.Words.{slot_of, row_of, row_at, block_of, slots_of}
use Rattle.words.proofs.Linked.{row_at-here, row_at-there}
use Rattle.words.proofs.Rows.{encode-length, encode-head, encode-row}
use Rattle.words.specs.Spots.{InSlot}
use Rattle.words.proofs.Spots.{row_at-right, spot-left, in_table, in_words}

-- ---- the left side

-- The row of the chunk next to the cut: of what comes after it only the first slot matters.
pub row_at-cut : (c : Chunk) (left right : List Chunk) → has c.slot (slots_of left) ≡ false
    → row_at 0 0 (reverse_aux left (c ∷ right)) c.slot ≡ row_of (slot_of left) (total left) (slot_of right) c
row_at-cut c left right f =
    row_at-right left (c ∷ right) c.slot f ∙ row_at-here (slot_of left) (total left) c right c.slot refl

-- A slot of a chunk on the left has the same row with any two right sides that begin with the same slot.
pub row-on_left : (left right right' : List Chunk) (k : ℕ) → has k (slots_of left) ≡ true → slot_of right ≡ slot_of right'
    → row_at 0 0 (reverse_aux left right) k ≡ row_at 0 0 (reverse_aux left right') k
row-on_left [] right right' k t e = absurd (has-none k t)
row-on_left (c ∷ left) right right' k t e =
    ⊎_elim (λ u. row-on_left left (c ∷ right) (c ∷ right') k u refl)
    (λ u.
    ⊎_elim
    (λ (x : c.slot ≡ k).
    row_at-right left (c ∷ right) k u ∙ row_at-here (slot_of left) (total left) c right k x
    ∙ ap (λ (n : ℕ). row_of (slot_of left) (total left) n c) e ∙ sym (row_at-here (slot_of left) (total left) c right' k x)
    ∙ sym (row_at-right left (c ∷ right') k u))
    (λ v. row-on_left left (c ∷ right) (c ∷ right') k v refl)
    (has-cases k c.slot (slots_of left) t))
    (cases (has k (slots_of left)))

-- Unless it is next to the cut, it has the same row with any right side.
pub row-far_left : (left right right' : List Chunk) (k : ℕ) → has k (slots_of left) ≡ true → slot_of left ≢ k
    → row_at 0 0 (reverse_aux left right) k ≡ row_at 0 0 (reverse_aux left right') k
row-far_left [] right right' k t f = absurd (has-none k t)
row-far_left (c ∷ left) right right' k t f =
    row-on_left left (c ∷ right) (c ∷ right') k (sym (has_other k c.slot (slots_of left) f) ∙ t) refl

-- The whole begins with the same slot with any two right sides that do.
pub first-kept : (left right right' : List Chunk) → slot_of right ≡ slot_of right'
    → slot_of (reverse_aux left right) ≡ slot_of (reverse_aux left right')
first-kept [] right right' e = e
first-kept (c ∷ left) right right' e = first-kept left (c ∷ right) (c ∷ right') refl

-- ---- the right side

-- Unless it is next to the cut, a slot has the same row whatever the slot before the cut is.
pub row-far_right : (prev prev' first : ℕ) (right : List Chunk) (k : ℕ) → slot_of right ≢ k
    → row_at prev first right k ≡ row_at prev' first right k
unfolding row_at
row-far_right prev prev' first [] k f = refl
row-far_right prev prev' first (c ∷ right) k f =
    row_at-there prev first c right k f ∙ sym (row_at-there prev' first c right k f)

-- ---- one chunk for another

-- A chunk that gives way to one of its own slot and size leaves the rows of all other slots.
pub row-swapped : (left : List Chunk) (c d : Chunk) (right : List Chunk) (k : ℕ) → c.slot ≡ d.slot → c.size ≡ d.size
    → c.slot ≢ k → row_at 0 0 (reverse_aux left (c ∷ right)) k ≡ row_at 0 0 (reverse_aux left (d ∷ right)) k
row-swapped left c d right k e s f =
    ⊎_elim (λ t. row-on_left left (c ∷ right) (d ∷ right) k t e)
    (λ t.
    row_at-right left (c ∷ right) k t ∙ row_at-there (slot_of left) (total left) c right k f
    ∙ (λ i. row_at (e i) (total left + s i) right k)
    ∙ sym (row_at-there (slot_of left) (total left) d right k (λ x. f (e ∙ x))) ∙ sym (row_at-right left (d ∷ right) k t))
    (cases (has k (slots_of left)))

-- ---- the words of a table

-- the first slot of chunks that are in slots of the table is one of these or 0
first-within : (s : ℕ) (cs : List Chunk) → All (λ c. (1 ≤ c.slot) × (c.slot ≤ s)) cs → slot_of cs ≤ s
first-within s [] a = omega arith
first-within s (c ∷ cs) a = a.0.1

-- The first slot of chunks that are not in slot k is another.
pub first-other : (k : ℕ) (cs : List Chunk) → 1 ≤ k → All (λ c. c.slot ≢ k) cs → slot_of cs ≢ k
first-other k [] l a e = omega arith
first-other k (c ∷ cs) l a e = a.0 e

module _ {ws : List ℕ} {k : ℕ} {z : Spot} (h : InSlot ws k z) where
  -- No chunk on the left is in the slot, and none on the right.
  pub left-apart : All (λ c. c.slot ≢ k) z.left
  left-apart = rw h.slot at (spot-left (block_of ws) h.laid z h.cut)

  pub right-apart : All (λ c. c.slot ≢ k) z.right
  right-apart =
      let p : Pairwise DifferentSlots (chunks_of z) = rw h.cut h.laid.apart in
      all_map (λ c f e. f (h.slot ∙ sym e)) z.right ((cut-pairs DifferentSlots z.left (z.chunk ∷ z.right)).0 p).1.0

  -- The chunks on either side are in slots of the table.
  pub sides-within : All (λ c. Slot ws c.slot) z.left × All (λ c. Slot ws c.slot) z.right
  unfolding block_of
  sides-within =
      let p : All (λ (c : Chunk). Slot ws c.slot) (chunks_of z) = rw h.cut h.laid.places in
      let q = (cut_all (λ (c : Chunk). Slot ws c.slot) z.left (z.chunk ∷ z.right)).0 p in
      (q.0, q.1.1)

  -- "previous" and "next" are slots of the table or 0.
  pub previous-within : previous_at ws k ≤ slot_count ws
  previous-within = rw (in_words h).previous (first-within (slot_count ws) z.left sides-within.0)

  pub next-within : next_at ws k ≤ slot_count ws
  next-within = rw (in_words h).next (first-within (slot_count ws) z.right sides-within.1)

  -- And other slots than the chunk's own.
  pub previous-other : previous_at ws k ≢ k
  previous-other e = first-other k z.left (in_table ws k z h).0 left-apart (sym (in_words h).previous ∙ e)

  pub next-other : next_at ws k ≢ k
  next-other e = first-other k z.right (in_table ws k z h).0 right-apart (sym (in_words h).next ∙ e)

  -- The words of every slot are as the chunks say.
  pub row-of-table : (i : ℕ) → Slot ws i → row ws i ≡ row_at 0 0 (chunks_of z) i
  unfolding block_of
  row-of-table i s =
      ap (λ (vs : List ℕ). row vs i) (sym h.words) ∙ encode-row (block_of ws) i s.0 s.1
      ∙ ap (λ (cs : List Chunk). row_at 0 0 cs i) (sym h.cut)

  -- So are the words of the head, and the length.
  pub allocated-of-table : allocated_word ws ≡ allocated (chunks_of z)
  allocated-of-table = ap allocated_word (sym h.words) ∙ (encode-head (block_of ws)).1 ∙ ap allocated (sym h.cut)

  pub first-of-table : first_slot ws ≡ slot_of (chunks_of z)
  first-of-table = ap first_slot (sym h.words) ∙ (encode-head (block_of ws)).3 ∙ ap slot_of (sym h.cut)

  pub length-of-table : length ws ≡ word_count (slot_count ws)
  unfolding block_of
  length-of-table = ap length (sym h.words) ∙ encode-length (block_of ws)
