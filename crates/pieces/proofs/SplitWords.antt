-- Splitting a free chunk, as words: which rows change, and the block that they are then. Assumes nothing.
use Rattle.std.specs.Prelude.{ℕ, ◌+◌, ◌-◌, ◌≤◌, false, ◌≢◌, ◌≡◌, refl, get_or}
use Rattle.std.proofs.Common.{arith, ⊎_elim, sym, ap, subst, ◌∙◌}
use mathlib.Core.List.{List, [], ◌∷◌, reverse_aux}
use Rattle.laws.specs.Cuts.{cut_all}
use Rattle.laws.specs.Every.{cases}
use Rattle.laws.specs.Lists.{All}
use Rattle.laws.specs.Members.{has, not_head, has_other, eq_or_not}
use Rattle.model.specs.Block.{Chunk, Spot, total, allocated}
use Rattle.model.specs.Effects.{chunks_of}
use Rattle.model.specs.Placing.{remainder_of}
use Rattle.model.specs.Sums.{allocated-cut}
use Rattle.model.proofs.Totals.{free_size, live_size_lem}
use Rattle.table.specs.Layout.{Slot, next_id, first_slot, id_at, size_at, first_byte_at, kind_at, label_at, previous_at, row}
use Rattle.words.specs.Words.{slot_of, row_at, encode, block_of, slots_of}
use Rattle.words.proofs.Linked.{row_at-there}
use Rattle.words.proofs.Rows.{written}
use Rattle.words.specs.Spots.{InSlot}
use Rattle.words.proofs.Spots.{row_at-right, slot_unused, in_row, in_words, before-in}
use Rattle.chunks.specs.Premises.{FreeIn, NoneIn}
use Rattle.chunks.specs.Sides.{row_at-cut, row-far_left, first-kept, first-other, left-apart, sides-within, row-of-table, allocated-of-table, first-of-table, length-of-table}
use Rattle.pieces.specs.Steps.{split_in_two}
use Rattle.pieces.specs.SplitWords.{SplitRows}

-- ---- the slot of the new chunk

-- chunks of which none is in slot k
none_in : (k : ℕ) (cs : List Chunk) → has k (slots_of cs) ≡ false → All (λ c. c.slot ≢ k) cs
none_in k [] e = tt
none_in k (c ∷ cs) e =
    let f : c.slot ≢ k = not_head k c.slot (slots_of cs) e in
    (f, none_in k cs (sym (has_other k c.slot (slots_of cs) f) ∙ e))

module _ {ws : List ℕ} {k new : ℕ} {z : Spot} (h : FreeIn ws k z) (u : NoneIn ws new) where
  -- no chunk on either side is in it, nor the chunk itself
  none-around : All (λ c. c.slot ≢ new) z.left × All (λ c. c.slot ≢ new) (z.chunk ∷ z.right)
  none-around =
      (cut_all (λ c. c.slot ≢ new) z.left (z.chunk ∷ z.right)).0
      (none_in new (chunks_of z) (ap (λ (cs : List Chunk). has new (slots_of cs)) h.place.cut ∙ u))

  -- It is not the chunk's own slot,
  pub new-other : new ≢ k
  new-other e = none-around.1.0 (h.place.slot ∙ sym e)

  -- nor the one before.
  pub new-not-before : 1 ≤ new → previous_at ws k ≢ new
  new-not-before l e = first-other new z.left l none-around.0 (sym (in_words h.place).previous ∙ e)

-- ---- the rows

-- the chunks once p is cut off from c
abbrev parted : List Chunk → Chunk → Chunk → List Chunk → List Chunk
parted left p c right = reverse_aux left (p ∷ remainder_of c p.size ∷ right)

-- the rows of all slots but three are as they were
other_row : (left : List Chunk) (p c : Chunk) (right : List Chunk) (i : ℕ) → p.size ≤ c.size → c.slot ≢ i → p.slot ≢ i
    → slot_of left ≢ i → row_at 0 0 (reverse_aux left (c ∷ right)) i ≡ row_at 0 0 (parted left p c right) i
other_row left p c right i l f g m =
    let r = remainder_of c p.size in
    ⊎_elim (λ t. row-far_left left (c ∷ right) (p ∷ r ∷ right) i t m)
    (λ t.
    let n : total left + c.size ≡ total left + p.size + (c.size - p.size) = omega arith in
    row_at-right left (c ∷ right) i t ∙ row_at-there (slot_of left) (total left) c right i f
    ∙ ap (λ (n : ℕ). row_at c.slot n right i) n
    ∙ sym (row_at-there p.slot (total left + p.size) r right i f)
    ∙ sym (row_at-there (slot_of left) (total left) p (r ∷ right) i g)
    ∙ sym (row_at-right left (p ∷ r ∷ right) i t))
    (cases (has i (slots_of left)))

-- the row of the chunk before the cut
before_row : (x : Chunk) (left right : List Chunk) (ws : List ℕ) (k : ℕ)
    → InSlot ws k (record { left = left; chunk = x; right = right }) → (right' : List Chunk)
    → id_at ws k ∷ size_at ws k ∷ first_byte_at ws k ∷ kind_at ws k ∷ label_at ws k ∷ slot_of right' ∷ previous_at ws k ∷ []
    ≡ row_at 0 0 (reverse_aux left (x ∷ right')) k
before_row x left right ws k h right' =
    let r = in_row ws k _ h in
    (λ i.
    get_or (r i) 0 0 ∷ get_or (r i) 1 0 ∷ get_or (r i) 2 0 ∷ get_or (r i) 3 0 ∷ get_or (r i) 4 0 ∷ slot_of right' ∷ get_or (r i) 6 0 ∷ [])
    ∙ sym (row_at-cut x left right' (slot_unused x.slot left (rw h.slot (left-apart h))))
    ∙ ap (row_at 0 0 (reverse_aux left (x ∷ right'))) h.slot

-- the new chunk
abbrev piece_in : List ℕ → ℕ → ℕ → ℕ → ℕ → Chunk
piece_in ws new n kind label = record { slot = new; id = next_id ws; size = n; kind = kind; label = label }

module _ {ws ws' : List ℕ} {k new n kind label : ℕ} {c : Chunk} {right : List Chunk}
    (j : SplitRows ws ws' k new n kind label) where
  -- the new chunk's row
  piece-row : (left : List Chunk) → FreeIn ws k (record { left = left; chunk = c; right = right }) → NoneIn ws new
      → row ws' new ≡ row_at 0 0 (parted left (piece_in ws new n kind label) c right) new
  piece-row left h u =
      let r = in_row ws k _ h.place in
      let own : k ≡ c.slot = sym h.place.slot in
      j.piece ∙ (λ i. next_id ws ∷ n ∷ get_or (r i) 2 0 ∷ kind ∷ label ∷ own i ∷ get_or (r i) 6 0 ∷ [])
      ∙ sym
      (row_at-cut (piece_in ws new n kind label) left (remainder_of c n ∷ right) (slot_unused new left (none-around h u).0))

  -- the remainder's row
  remainder-row : (left : List Chunk) → FreeIn ws k (record { left = left; chunk = c; right = right }) → NoneIn ws new
      → row ws' k ≡ row_at 0 0 (parted left (piece_in ws new n kind label) c right) k
  remainder-row left h u =
      let p = piece_in ws new n kind label in
      let r = in_row ws k _ h.place in
      let sum : total left + n ≡ n + total left = omega arith in
      let first : first_byte_at ws k + n ≡ n + total left = ap (λ (l : List ℕ). get_or l 2 0 + n) r ∙ sum in
      let free : kind_at ws k ≡ 0 = ap (λ (l : List ℕ). get_or l 3 0) r ∙ h.free in
      let unnamed : label_at ws k ≡ 0 = ap (λ (l : List ℕ). get_or l 4 0) r ∙ h.unnamed in
      let a : All (λ (x : Chunk). x.slot ≢ c.slot) (p ∷ left) =
      (λ (e : new ≡ c.slot). new-other h u (e ∙ h.place.slot), subst (λ (s : ℕ). All (λ (x : Chunk). x.slot ≢ s) left) (sym h.place.slot) (left-apart h.place)) in
      j.remainder
      ∙ (λ i. get_or (r i) 0 0 ∷ (get_or (r i) 1 0 - n) ∷ first i ∷ free i ∷ unnamed i ∷ get_or (r i) 5 0 ∷ new ∷ [])
      ∙ sym (row_at-cut (remainder_of c n) (p ∷ left) right (slot_unused c.slot (p ∷ left) a))
      ∙ ap (row_at 0 0 (parted left p c right)) h.place.slot

  -- the row of the chunk before
  previous-row : (left : List Chunk) → InSlot ws k (record { left = left; chunk = c; right = right }) → previous_at ws k ≢ 0
      → row ws' (previous_at ws k) ≡ row_at 0 0 (parted left (piece_in ws new n kind label) c right) (previous_at ws k)
  previous-row [] h f = absurd (f (in_words h).previous)
  previous-row (x ∷ left) h f =
      let place : InSlot ws (previous_at ws k) (record { left = left; chunk = x; right = c ∷ right }) = before-in h in
      j.before f
      ∙ before_row x left (c ∷ right) ws (previous_at ws k) place (piece_in ws new n kind label ∷ remainder_of c n ∷ right)

  -- every row
  each_row : (left : List Chunk) → FreeIn ws k (record { left = left; chunk = c; right = right }) → NoneIn ws new
      → n ≤ c.size → (i : ℕ) → Slot ws i → row ws' i ≡ row_at 0 0 (parted left (piece_in ws new n kind label) c right) i
  each_row left h u l i s =
      ⊎_elim (λ (e : i ≡ k). rw e (remainder-row left h u))
      (λ f.
      ⊎_elim (λ (e : i ≡ new). rw e (piece-row left h u))
      (λ g.
      ⊎_elim
      (λ (e : i ≡ previous_at ws k).
      rw e (previous-row left h.place (λ (q : previous_at ws k ≡ 0). omega (arith, s.0))))
      (λ m.
      j.others i s f g m ∙ row-of-table h.place i s
      ∙ other_row left (piece_in ws new n kind label) c right i l (λ x. f (sym x ∙ h.place.slot)) (λ x. g (sym x))
      (λ x. m (sym x ∙ sym (in_words h.place).previous)))
      (eq_or_not i (previous_at ws k)))
      (eq_or_not i new))
      (eq_or_not i k)

  -- ---- the head

  -- the first slot
  first-slot : (left : List Chunk) → InSlot ws k (record { left = left; chunk = c; right = right })
      → first_slot ws' ≡ slot_of (parted left (piece_in ws new n kind label) c right)
  first-slot [] h = j.new_first (in_words h).previous
  first-slot (x ∷ left) h =
      let p = piece_in ws new n kind label in
      let low : 1 ≤ x.slot = (sides-within h).0.0.0 in
      j.same_first (λ (e : previous_at ws k ≡ 0). omega (arith, (in_words h).previous)) ∙ first-of-table h
      ∙ first-kept left (x ∷ c ∷ right) (x ∷ p ∷ remainder_of c n ∷ right) refl

-- the live bytes are those of the new chunk more
live_more : (left : List Chunk) (p c : Chunk) (right : List Chunk) → p.kind ≢ 0 → c.kind ≡ 0
    → allocated (reverse_aux left (c ∷ right)) + p.size ≡ allocated (parted left p c right)
live_more left p c right f g =
    let q = live_size_lem p f in
    let e = free_size c g in
    omega (arith, allocated-cut left (c ∷ right), allocated-cut left (p ∷ remainder_of c p.size ∷ right))

-- ---- the words

-- Words with these rows are the block with the chunk in two.
pub split_written : {ws ws' : List ℕ} {k new n kind label : ℕ} {z : Spot} → FreeIn ws k z → NoneIn ws new
    → n ≤ size_at ws k → kind ≢ 0 → SplitRows ws ws' k new n kind label
    → ws' ≡ encode (split_in_two new n kind label z (block_of ws))
unfolding split_in_two block_of
split_written {ws} {ws'} {k} {new} {n} {kind} {label} {z} h u l f j =
    let fits : n ≤ z.chunk.size = rw (← (in_words h.place).size) l in
    sym
    (written ws' (split_in_two new n kind label z (block_of ws)) (j.count ∙ length-of-table h.place) j.size
    (j.allocated ∙ ap (λ (a : ℕ). a + n) (allocated-of-table h.place)
    ∙ live_more z.left (piece_in ws new n kind label) z.chunk z.right f h.free)
    j.next (first-slot j z.left h.place)
    (λ i low high. each_row j z.left h u fits i (low, high)))
