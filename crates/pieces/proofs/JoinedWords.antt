-- Joining two free neighbours, as words: which rows change, and the block that they are then. Assumes nothing.
use Rattle.std.specs.Prelude.{ℕ, ◌+◌, ◌≤◌, ◌≢◌, ◌≡◌, refl, get_or}
use Rattle.std.proofs.Common.{arith, ⊎_elim, sym, ap, subst, ◌∙◌}
use mathlib.Core.List.{List, [], ◌∷◌, reverse_aux}
use Rattle.laws.specs.Cuts.{cut_all, swap-all, swap-pairs, drop_all, drop-pairs}
use Rattle.laws.specs.Every.{cases}
use Rattle.laws.specs.Lists.{All}
use Rattle.laws.specs.Members.{has, eq_or_not}
use Rattle.model.specs.Block.{Chunk, Block, Spot, total, allocated}
use Rattle.model.specs.Choose.{Cut}
use Rattle.model.specs.GivingBack.{grown}
use Rattle.model.specs.Soundness.{DifferentSlots}
use Rattle.model.specs.Sums.{allocated-cut}
use Rattle.model.proofs.Totals.{free_size}
use Rattle.table.specs.Layout.{slot_count, Slot, first_byte_at, kind_at, label_at, next_at, row}
use Rattle.words.specs.Words.{slot_of, row_at, encode, block_of, slots_of}
use Rattle.words.proofs.Linked.{row_at-there, row_at-none}
use Rattle.words.specs.Laid.{Laid}
use Rattle.words.proofs.Rows.{written}
use Rattle.words.specs.Spots.{InSlot}
use Rattle.words.proofs.Spots.{row_at-right, slot_unused, in_table, in_row, in_words, after-in}
use Rattle.chunks.specs.Premises.{TwoFree}
use Rattle.chunks.specs.Sides.{row_at-cut, row-on_left, row-far_right, first-kept, first-other, left-apart, right-apart, next-within, next-other, row-of-table, allocated-of-table, first-of-table, length-of-table}
use Rattle.chunks.specs.Steps.{set_free}
use Rattle.pieces.specs.Steps.{joined}
use Rattle.pieces.specs.JoinedWords.{JoinedRows}

-- ---- the two chunks in the table

module _ {ws : List ℕ} {k : ℕ} {left : List Chunk} {c d : Chunk} {right : List Chunk} (h : TwoFree ws k left c d right) where
  -- The slot after the chunk is that of the chunk that it takes in.
  pub taken-place : InSlot ws (next_at ws k) (record { left = c ∷ left; chunk = d; right = right })
  taken-place = after-in h.place

  pub taken-slot : Slot ws (next_at ws k)
  taken-slot = in_table ws (next_at ws k) _ taken-place

  -- The slot after both is one of the table's or 0, and no slot of the two.
  pub after-slot : next_at ws (next_at ws k) ≡ slot_of right
  after-slot = (in_words taken-place).next

  pub after-within : next_at ws (next_at ws k) ≤ slot_count ws
  after-within = next-within taken-place

  pub after-other : next_at ws (next_at ws k) ≢ next_at ws k
  after-other = next-other taken-place

  pub after_kept : next_at ws (next_at ws k) ≢ k
  after_kept e = first-other k right (in_table ws k _ h.place).0 (right-apart h.place).1 (sym after-slot ∙ e)

-- ---- the rows

-- the chunks once d is taken in
abbrev merged : List Chunk → Chunk → Chunk → List Chunk → List Chunk
merged left c d right = reverse_aux left (grown c d.size ∷ right)

-- the rows of all slots but three are as they were
other_row : (left : List Chunk) (c d : Chunk) (right : List Chunk) (i : ℕ) → c.slot ≢ i → d.slot ≢ i → slot_of right ≢ i
    → row_at 0 0 (reverse_aux left (c ∷ d ∷ right)) i ≡ row_at 0 0 (merged left c d right) i
other_row left c d right i f g m =
    ⊎_elim (λ t. row-on_left left (c ∷ d ∷ right) (grown c d.size ∷ right) i t refl)
    (λ t.
    let n : total left + c.size + d.size ≡ total left + (c.size + d.size) = omega arith in
    row_at-right left (c ∷ d ∷ right) i t ∙ row_at-there (slot_of left) (total left) c (d ∷ right) i f
    ∙ row_at-there c.slot (total left + c.size) d right i g
    ∙ row-far_right d.slot c.slot (total left + c.size + d.size) right i m
    ∙ ap (λ (n : ℕ). row_at c.slot n right i) n
    ∙ sym (row_at-there (slot_of left) (total left) (grown c d.size) right i f)
    ∙ sym (row_at-right left (grown c d.size ∷ right) i t))
    (cases (has i (slots_of left)))

module _ {ws ws' : List ℕ} {k : ℕ} {left : List Chunk} {c d : Chunk} where
  -- the chunk's own row
  kept_row : (right : List Chunk) → TwoFree ws k left c d right → JoinedRows ws ws' k
      → row ws' k ≡ row_at 0 0 (merged left c d right) k
  kept_row right h j =
      let r = in_row ws k _ h.place in
      let q = in_row ws (next_at ws k) _ (taken-place h) in
      let kind : kind_at ws k ≡ 0 = ap (λ (l : List ℕ). get_or l 3 0) r ∙ h.free in
      let label : label_at ws k ≡ 0 = ap (λ (l : List ℕ). get_or l 4 0) r ∙ h.unnamed in
      let a : All (λ (x : Chunk). x.slot ≢ c.slot) left = rw h.place.slot (left-apart h.place) in
      j.kept
      ∙ (λ i.
      get_or (r i) 0 0 ∷ (get_or (r i) 1 0 + get_or (q i) 1 0) ∷ get_or (r i) 2 0 ∷ kind i ∷ label i ∷ get_or (q i) 5 0
      ∷ get_or (r i) 6 0 ∷ [])
      ∙ sym (row_at-cut (grown c d.size) left right (slot_unused c.slot left a))
      ∙ ap (row_at 0 0 (merged left c d right)) h.place.slot

  -- the empty row of the chunk that it took in
  taken-row : (right : List Chunk) → TwoFree ws k left c d right → JoinedRows ws ws' k
      → row ws' (next_at ws k) ≡ row_at 0 0 (merged left c d right) (next_at ws k)
  taken-row right h j =
      let l = left-apart (taken-place h) in
      let r = right-apart (taken-place h) in
      let a : All (λ (x : Chunk). x.slot ≢ next_at ws k) (merged left c d right) =
      (cut_all (λ (x : Chunk). x.slot ≢ next_at ws k) left (grown c d.size ∷ right)).1 (l.1, (l.0, r)) in
      j.taken
      ∙ sym (row_at-none 0 0 (merged left c d right) (next_at ws k) (slot_unused (next_at ws k) (merged left c d right) a))

  -- the row of the chunk after both
  after-row : (right : List Chunk) → TwoFree ws k left c d right → JoinedRows ws ws' k → next_at ws (next_at ws k) ≢ 0
      → row ws' (next_at ws (next_at ws k)) ≡ row_at 0 0 (merged left c d right) (next_at ws (next_at ws k))
  after-row [] h j f = absurd (f (after-slot h))
  after-row (x ∷ right) h j f =
      let m = next_at ws (next_at ws k) in
      let place : InSlot ws m (record { left = d ∷ c ∷ left; chunk = x; right = right }) =
      record { words = h.place.words; laid = h.place.laid; cut = h.place.cut; slot = sym (after-slot h) } in
      let r = in_row ws m _ place in
      let n : d.size + (c.size + total left) ≡ c.size + d.size + total left = omega arith in
      let first : first_byte_at ws m ≡ c.size + d.size + total left = ap (λ (l : List ℕ). get_or l 2 0) r ∙ n in
      let prev : k ≡ c.slot = sym h.place.slot in
      let a : All (λ (y : Chunk). y.slot ≢ x.slot) (grown c d.size ∷ left) =
      subst (λ (s : ℕ). All (λ (y : Chunk). y.slot ≢ s) (grown c d.size ∷ left)) (after-slot h) (left-apart place).1 in
      j.after f
      ∙ (λ i.
      get_or (r i) 0 0 ∷ get_or (r i) 1 0 ∷ first i ∷ get_or (r i) 3 0 ∷ get_or (r i) 4 0 ∷ get_or (r i) 5 0 ∷ prev i ∷ [])
      ∙ sym (row_at-cut x (grown c d.size ∷ left) right (slot_unused x.slot (grown c d.size ∷ left) a))
      ∙ ap (row_at 0 0 (merged left c d (x ∷ right))) (sym (after-slot h))

  -- every row
  each_row : {right : List Chunk} → TwoFree ws k left c d right → JoinedRows ws ws' k → (i : ℕ) → Slot ws i
      → row ws' i ≡ row_at 0 0 (merged left c d right) i
  each_row {right = right} h j i s =
      ⊎_elim (λ (e : i ≡ k). rw e (kept_row right h j))
      (λ f.
      ⊎_elim (λ (e : i ≡ next_at ws k). rw e (taken-row right h j))
      (λ g.
      ⊎_elim
      (λ (e : i ≡ next_at ws (next_at ws k)).
      rw e (after-row right h j (λ (q : next_at ws (next_at ws k) ≡ 0). omega (arith, s.0))))
      (λ m.
      j.others i s f g m ∙ row-of-table h.place i s
      ∙ other_row left c d right i (λ x. f (sym x ∙ h.place.slot)) (λ x. g (sym x ∙ sym (in_words h.place).next))
      (λ x. m (sym x ∙ sym (after-slot h))))
      (eq_or_not i (next_at ws (next_at ws k))))
      (eq_or_not i (next_at ws k)))
      (eq_or_not i k)

-- ---- the head

-- a free chunk adds no live bytes, so they stay
live_kept : (left : List Chunk) (c d : Chunk) (right : List Chunk) → c.kind ≡ 0 → d.kind ≡ 0
    → allocated (reverse_aux left (c ∷ d ∷ right)) ≡ allocated (merged left c d right)
live_kept left c d right f g =
    let p = free_size c f in
    let q = free_size d g in
    omega (arith, allocated-cut left (c ∷ d ∷ right), allocated-cut left (grown c d.size ∷ right))

-- ---- the words

-- Words with these rows are the block with the two chunks joined.
pub join_written : {ws ws' : List ℕ} {k : ℕ} {left : List Chunk} {c d : Chunk} {right : List Chunk}
    → TwoFree ws k left c d right → JoinedRows ws ws' k → ws' ≡ encode (joined left c d right (block_of ws))
unfolding joined block_of
join_written {ws} {ws'} {k} {left} {c} {d} {right} h j =
    sym
    (written ws' (joined left c d right (block_of ws)) (j.count ∙ length-of-table h.place) j.size
    (j.allocated ∙ allocated-of-table h.place ∙ live_kept left c d right h.free h.next_free)
    j.next
    (j.first ∙ first-of-table h.place ∙ first-kept left (c ∷ d ∷ right) (grown c d.size ∷ right) refl)
    (λ i low high. each_row h j i (low, high)))

-- ---- each chunk stays in a slot of its own

-- A block is laid so once a chunk of it is free,
pub free_laid : (z : Spot) (b : Block) → Cut b.chunks z → Laid b → Laid (set_free z b)
unfolding set_free
free_laid z b cut h = record {
  slots = h.slots;
  places =
      swap-all (λ c. (1 ≤ c.slot) × (c.slot ≤ b.slots)) z.left z.chunk (grown z.chunk 0) z.right
      (λ p. p) (rw cut h.places);
  apart =
      swap-pairs DifferentSlots z.left z.chunk (grown z.chunk 0) z.right (λ x f. f) (λ x f. f)
      (rw cut h.apart);
}

-- and once two chunks of it are joined.
pub joined-laid : (left : List Chunk) (c d : Chunk) (right : List Chunk) (b : Block)
    → Cut b.chunks (record { left = left; chunk = c; right = d ∷ right }) → Laid b → Laid (joined left c d right b)
unfolding joined
joined-laid left c d right b cut h = record {
  slots = h.slots;
  places =
      swap-all (λ x. (1 ≤ x.slot) × (x.slot ≤ b.slots)) left c (grown c d.size) right (λ p. p)
      (drop_all (λ x. (1 ≤ x.slot) × (x.slot ≤ b.slots)) left c d right (rw cut h.places));
  apart =
      swap-pairs DifferentSlots left c (grown c d.size) right (λ x f. f) (λ x f. f)
      (drop-pairs DifferentSlots left c d right (rw cut h.apart));
}
