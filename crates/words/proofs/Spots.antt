-- A chunk of a written block with its neighbours, and the words of its slot. Assumes nothing.
use Rattle.std.specs.Prelude.{ℕ, ◌+◌, ◌≤◌, ◌<◌, true, false, ◌≢◌, ◌≡◌, refl, get_or}
use Rattle.std.proofs.Common.{arith, sym, ap, ◌∙◌}
use mathlib.Core.List.{List, [], ◌∷◌, reverse_aux}
use Rattle.std.proofs.Math.Logic.{⊎_elim}
use Rattle.std.proofs.Math.Path.{subst}
use Rattle.laws.specs.Cuts.{cut_all, cut-pairs}
use Rattle.laws.specs.Every.{cases}
use Rattle.laws.specs.Lists.{All, Pairwise, all_map}
use Rattle.laws.specs.Members.{has, has-none, has-cases, has_other, not_head}
use Rattle.model.specs.Block.{Chunk, Block, Spot, total, first}
use Rattle.model.specs.Choose.{Cut}
use Rattle.model.specs.Effects.{chunks_of}
use Rattle.model.specs.Soundness.{DifferentSlots}
use Rattle.table.specs.Layout.{Slot, id_at, next_at, previous_at, row}
use Rattle.words.specs.Words.{slot_of, row_of, row_at, encode, block_of, slots_of, sound}
use Rattle.words.specs.Soundness.{Used}
use Rattle.words.proofs.Rows.{encode-row}
use Rattle.words.proofs.Linked.{row_at-here, row_at-there, row_at-none}
use Rattle.words.specs.Laid.{Laid}
use Rattle.words.proofs.Laid.{sound-laid, block_back}
use Rattle.words.proofs.Written.{known}
use Rattle.words.specs.Spots.{InSlot, ReadAs}

-- A slot that no chunk on the left is in is as the chunks on the right say.
pub row_at-right : (left right : List Chunk) (k : ℕ) → has k (slots_of left) ≡ false
    → row_at 0 0 (reverse_aux left right) k ≡ row_at (slot_of left) (total left) right k
row_at-right [] right k e = refl
row_at-right (c ∷ left) right k e =
    let f : c.slot ≢ k = not_head k c.slot (slots_of left) e in
    let n : total left + c.size ≡ c.size + total left = omega arith in
    row_at-right left (c ∷ right) k (sym (has_other k c.slot (slots_of left) f) ∙ e)
    ∙ row_at-there (slot_of left) (total left) c right k f
    ∙ ap (λ (n : ℕ). row_at c.slot n right k) n

-- A slot that differs from that of each chunk has none.
pub slot_unused : (k : ℕ) (cs : List Chunk) → All (λ c. c.slot ≢ k) cs → has k (slots_of cs) ≡ false
unfolding has
slot_unused k [] a = refl
slot_unused k (c ∷ cs) a = has_other k c.slot (slots_of cs) a.0 ∙ slot_unused k cs a.1

module _ (b : Block) (h : Laid b) (z : Spot) (cut : Cut b.chunks z) where
  -- The slot of a chunk is one of the table's.
  pub spot-slot : (1 ≤ z.chunk.slot) × (z.chunk.slot ≤ b.slots)
  spot-slot = ((cut_all (λ c. (1 ≤ c.slot) × (c.slot ≤ b.slots)) z.left (z.chunk ∷ z.right)).0 (rw cut h.places)).1.0

  -- No chunk on the left is in it.
  pub spot-left : All (λ c. c.slot ≢ z.chunk.slot) z.left
  spot-left =
      let p : Pairwise DifferentSlots (reverse_aux z.left (z.chunk ∷ z.right)) = rw cut h.apart in
      all_map (λ c q. q.0) z.left ((cut-pairs DifferentSlots z.left (z.chunk ∷ z.right)).0 p).2

  -- The words of a chunk's slot: its own, where it begins, and the slots of its neighbours, 0 for none.
  pub spot-row : row (encode b) z.chunk.slot ≡ row_of (slot_of z.left) (first z) (slot_of z.right) z.chunk
  spot-row =
      let k = z.chunk.slot in
      encode-row b k spot-slot.0 spot-slot.1 ∙ ap (λ (cs : List Chunk). row_at 0 0 cs k) (sym cut)
      ∙ row_at-right z.left (z.chunk ∷ z.right) k (slot_unused k z.left spot-left)
      ∙ row_at-here (slot_of z.left) (first z) z.chunk z.right k refl

-- ---- the words of a table

-- Each chunk of sound words is in its slot so.
pub sound-spot : (ws : List ℕ) → sound ws ≡ true → (z : Spot) → Cut (block_of ws).chunks z → InSlot ws z.chunk.slot z
sound-spot ws s z e =
    let h = known ws s in
    record { words = h.words; laid = sound-laid (block_of ws) h.block; cut = e; slot = refl }

module _ (ws : List ℕ) (k : ℕ) (z : Spot) (h : InSlot ws k z) where
  -- The slot is one of the table's.
  pub in_table : Slot ws k
  unfolding block_of
  in_table = rw (← h.slot) (spot-slot (block_of ws) h.laid z h.cut)

  -- Its words are the chunk's.
  pub in_row : row ws k ≡ row_of (slot_of z.left) (first z) (slot_of z.right) z.chunk
  in_row =
      ap (λ (vs : List ℕ). row vs k) (sym h.words) ∙ ap (row (encode (block_of ws))) (sym h.slot)
      ∙ spot-row (block_of ws) h.laid z h.cut

module _ {ws : List ℕ} {k : ℕ} {z : Spot} (h : InSlot ws k z) where
  -- One by one.
  pub in_words : ReadAs ws k z
  in_words =
      let e = in_row ws k z h in
      record {
        id = ap (λ (l : List ℕ). get_or l 0 0) e;
        size = ap (λ (l : List ℕ). get_or l 1 0) e;
        begins = ap (λ (l : List ℕ). get_or l 2 0) e;
        kind = ap (λ (l : List ℕ). get_or l 3 0) e;
        label = ap (λ (l : List ℕ). get_or l 4 0) e;
        next = ap (λ (l : List ℕ). get_or l 5 0) e;
        previous = ap (λ (l : List ℕ). get_or l 6 0) e;
      }

  -- What holds of all chunks holds of this one.
  pub in_all : (P : Chunk → Type 0) → All P (block_of ws).chunks → P z.chunk
  in_all P a = ((cut_all P z.left (z.chunk ∷ z.right)).0 (rw h.cut a)).1.0

  -- Another chunk of the same block is in its slot too.
  pub beside : (y : Spot) (j : ℕ) → chunks_of y ≡ chunks_of z → y.chunk.slot ≡ j → InSlot ws j y
  beside y j e s = record { words = h.words; laid = h.laid; cut = e ∙ h.cut; slot = s }

module _ {ws : List ℕ} {k : ℕ} {left right : List Chunk} {c d : Chunk} where
  -- So is the one before, where "previous" says, and the one after, where "next" says.
  pub before-in : InSlot ws k (record { left = c ∷ left; chunk = d; right = right })
      → InSlot ws (previous_at ws k) (record { left = left; chunk = c; right = d ∷ right })
  before-in h = beside h _ _ refl (sym (in_words h).previous)

  pub after-in : InSlot ws k (record { left = left; chunk = c; right = d ∷ right })
      → InSlot ws (next_at ws k) (record { left = c ∷ left; chunk = d; right = right })
  after-in h = beside h _ _ refl (sym (in_words h).next)

-- Words as a laid block is written hold its chunks.
pub written-spot : (b : Block) → Laid b → (ws : List ℕ) → ws ≡ encode b → (z : Spot) → Cut b.chunks z → (k : ℕ)
    → z.chunk.slot ≡ k → InSlot ws k z
written-spot b h ws e z cut k s =
    let q : block_of ws ≡ b = ap block_of e ∙ block_back b h in
    record { words = ap encode q ∙ sym e; laid = rw q h; cut = rw q cut; slot = s }

-- ---- the slots that are used

-- one of the chunks is in slot k
spot-at : (k : ℕ) (left cs : List Chunk) → has k (slots_of cs) ≡ true
    → (z : Spot) × Cut (reverse_aux left cs) z × (z.chunk.slot ≡ k)
spot-at k left [] t = absurd (has-none k t)
spot-at k left (c ∷ cs) t =
    ⊎_elim (λ e. (record { left = left; chunk = c; right = cs }, refl, e)) (spot-at k (c ∷ left) cs)
    (has-cases k c.slot (slots_of cs) t)

module _ (ws : List ℕ) (s : sound ws ≡ true) where
  -- A used slot of sound words holds a chunk.
  pub used-spot : (k : ℕ) → Used ws k → (z : Spot) × InSlot ws k z
  unfolding block_of
  used-spot k u =
      ⊎_elim
      (λ t.
      let p = spot-at k [] (block_of ws).chunks t in
      (p.0, subst (λ (j : ℕ). InSlot ws j p.0) p.2 (sound-spot ws s p.0 p.1)))
      (λ f. absurd (u.1 ((known ws s).rows k u.0.0 u.0.1 ∙ row_at-none 0 0 (block_of ws).chunks k f)))
      (cases (has k (slots_of (block_of ws).chunks)))

  -- And a slot that holds one is used, as ids are at least 1.
  pub spot-used : (k : ℕ) (z : Spot) → InSlot ws k z → Used ws k
  spot-used k z h =
      let i = in_all h (λ c. (1 ≤ c.id) × (c.id < (block_of ws).next)) (known ws s).block.ids in (
        in_table ws k z h,
        λ q. let n : id_at ws k ≡ 0 = ap (λ (l : List ℕ). get_or l 0 0) q in omega (arith, (in_words h).id),
      )
