-- The stores that split a free chunk, and the block that the words are then. Assumes nothing.
use Prim.Native.Nat.{ℕ, suc, ◌+◌, ◌-◌, ◌≤◌, ◌<◌}
use native.Mathlib.Numerals.{add-one}
use native.Mathlib.Omega.{arith}
use mathlib.Core.List.{List, [], ◌∷◌}
use mathlib.Core.Logic.{◌≢◌}
use mathlib.Core.Path.{◌≡◌, sym, ap, ◌∙◌}
use lib.ListN.{length, get_or, set, length-set}
use lib.Seq.{get_or-set_same, get_or-set_other}
use Rattle.model.specs.Block.{Spot}
use Rattle.table.specs.Layout.{slot_count, Slot, allocated_word, next_id, size_at, first_byte_at, previous_at, row}
use Rattle.stores.specs.declared.Row.{Row}
use Rattle.stores.specs.Stores.{set_row, OnlySlot, nothing, stored, row-head_set, row_written}
use Rattle.words.specs.Words.{encode, block_of}
use Rattle.words.proofs.Spots.{in_table}
use Rattle.chunks.specs.Premises.{FreeIn, NoneIn}
use Rattle.chunks.specs.Sides.{previous-within, previous-other}
use Rattle.pieces.specs.SplitWords.{SplitRows}
use Rattle.pieces.proofs.SplitWords.{new-other, new-not-before, split_written}
use Rattle.pieces.specs.Steps.{split_in_two}
use Rattle.pieces.specs.Stores.{next_of_set, shortened}
use Rattle.pieces.proofs.LinkStores.{NextTold, next_told}

-- the head: the next id is spent, then allocated rises
abbrev counted : List ℕ → ℕ → List ℕ
counted ws n = let vs = set ws 2 (next_id ws + 1) in set vs 1 (allocated_word vs + n)

-- the new slot's words
abbrev piece_row : List ℕ → ℕ → ℕ → ℕ → ℕ → Row
piece_row ws k n kind label = record {
  id = next_id ws;
  size = n;
  first_byte = first_byte_at ws k;
  kind = kind;
  label = label;
  next = k;
  previous = previous_at ws k;
}

-- then it is written, and linked from the slot before
abbrev linked_in : List ℕ → ℕ → ℕ → ℕ → ℕ → ℕ → List ℕ
linked_in ws k new n kind label =
    next_of_set (set_row (counted ws n) new (piece_row ws k n kind label)) (previous_at ws k) new

-- then the remainder begins later
abbrev split_stores : List ℕ → ℕ → ℕ → ℕ → ℕ → ℕ → List ℕ
split_stores ws k new n kind label =
    shortened (linked_in ws k new n kind label) k (first_byte_at ws k + n) (size_at ws k - n) new

counted-length : (ws : List ℕ) (n : ℕ) → length (counted ws n) ≡ length ws
counted-length ws n =
    let vs = set ws 2 (next_id ws + 1) in length-set vs 1 (allocated_word vs + n) ∙ length-set ws 2 (next_id ws + 1)

counted-row : (ws : List ℕ) (n i : ℕ) → row (counted ws n) i ≡ row ws i
counted-row ws n i =
    let vs = set ws 2 (next_id ws + 1) in
    row-head_set vs 1 (allocated_word vs + n) i (omega arith) ∙ row-head_set ws 2 (next_id ws + 1) i (omega arith)

counted-other : (ws : List ℕ) (n j : ℕ) → j ≢ 1 → j ≢ 2 → get_or (counted ws n) j 0 ≡ get_or ws j 0
counted-other ws n j f g =
    let vs = set ws 2 (next_id ws + 1) in
    get_or-set_other vs 1 j (allocated_word vs + n) 0 f ∙ get_or-set_other ws 2 j (next_id ws + 1) 0 g

-- Spending an id leaves allocated.
pub allocated-kept : (ws : List ℕ) (v : ℕ) → allocated_word (set ws 2 v) ≡ allocated_word ws
allocated-kept ws v = get_or-set_other ws 2 1 v 0 (λ (x : 1 ≡ 2). omega arith)

counted-allocated : (ws : List ℕ) (n : ℕ) → 4 ≤ length ws → allocated_word (counted ws n) ≡ allocated_word ws + n
counted-allocated ws n l =
    let vs = set ws 2 (next_id ws + 1) in
    let e : length vs ≡ length ws = length-set ws 2 (next_id ws + 1) in
    get_or-set_same vs 1 (allocated_word vs + n) 0 (omega arith)
    ∙ ap (λ (m : ℕ). m + n) (allocated-kept ws (next_id ws + 1))

counted_next : (ws : List ℕ) (n : ℕ) → 4 ≤ length ws → next_id (counted ws n) ≡ suc (next_id ws)
counted_next ws n l =
    let vs = set ws 2 (next_id ws + 1) in
    get_or-set_other vs 1 2 (allocated_word vs + n) 0 (λ (x : 2 ≡ 1). omega arith)
    ∙ get_or-set_same ws 2 (next_id ws + 1) 0 (omega arith) ∙ add-one (next_id ws)

-- the slot of the remainder
shortened-row : (ws : List ℕ) (k first size new : ℕ) → Slot ws k
    → OnlySlot ws (shortened ws k first size new) k (set (set (set (row ws k) 1 size) 2 first) 6 new)
unfolding shortened
shortened-row ws k first size new s =
    stored s (stored s (stored s (nothing ws k) 1 size (omega arith)) 2 first (omega arith)) 6 new (omega arith)

-- where the stores go to three different slots
module _ (ws : List ℕ) (k new n kind label : ℕ) (s : Slot ws k) (t : Slot ws new) (l : previous_at ws k ≤ slot_count ws)
    (f : new ≢ k) (g : previous_at ws k ≢ k) (m : previous_at ws k ≢ new) where
  -- the three steps
  piece : OnlySlot (counted ws n) (set_row (counted ws n) new (piece_row ws k n kind label)) new
      (next_id ws ∷ n ∷ first_byte_at ws k ∷ kind ∷ label ∷ k ∷ previous_at ws k ∷ [])
  piece =
      row_written (counted ws n) new (piece_row ws k n kind label) (rw (counted-length ws n) t)

  link : NextTold (set_row (counted ws n) new (piece_row ws k n kind label))
      (linked_in ws k new n kind label) (previous_at ws k) new
  link =
      let e = piece.count ∙ counted-length ws n in
      next_told (set_row (counted ws n) new (piece_row ws k n kind label)) (previous_at ws k) new
      (omega arith) (rw e l)

  rest : OnlySlot (linked_in ws k new n kind label) (split_stores ws k new n kind label) k
      (set (set (set (row (linked_in ws k new n kind label) k) 1 (size_at ws k - n)) 2 (first_byte_at ws k + n)) 6 new)
  rest =
      let e = link.count ∙ piece.count ∙ counted-length ws n in
      shortened-row (linked_in ws k new n kind label) k (first_byte_at ws k + n) (size_at ws k - n) new (rw e s)

  -- a slot that is not the new one is as before until it is linked
  before-link : (i : ℕ) → 1 ≤ i → i ≢ new
      → row (set_row (counted ws n) new (piece_row ws k n kind label)) i ≡ row ws i
  before-link i q x = piece.others i q x ∙ counted-row ws n i

  head-split : (j : ℕ) → j < 3 → get_or (split_stores ws k new n kind label) j 0 ≡ get_or (counted ws n) j 0
  head-split j q = rest.head j (omega arith) ∙ link.head j q ∙ piece.head j (omega arith)

  split_rows : SplitRows ws (split_stores ws k new n kind label) k new n kind label
  split_rows = record {
    count = rest.count ∙ link.count ∙ piece.count ∙ counted-length ws n;
    size = head-split 0 (omega arith) ∙ counted-other ws n 0 (λ (x : 0 ≡ 1). omega arith) (λ (x : 0 ≡ 2). omega arith);
    allocated = head-split 1 (omega arith) ∙ counted-allocated ws n (omega arith);
    next = head-split 2 (omega arith) ∙ counted_next ws n (omega arith);
    new_first = λ e. rest.head 3 (omega arith) ∙ link.new_first e;
    same_first = λ e.
        rest.head 3 (omega arith) ∙ link.same_first e ∙ piece.head 3 (omega arith)
        ∙ counted-other ws n 3 (λ (x : 3 ≡ 1). omega arith) (λ (x : 3 ≡ 2). omega arith);
    piece = rest.others new t.0 f ∙ link.others new t.0 (λ x. m (sym x)) ∙ piece.here;
    remainder =
        rest.here
        ∙ ap (λ (r : List ℕ). set (set (set r 1 (size_at ws k - n)) 2 (first_byte_at ws k + n)) 6 new)
        (link.others k s.0 (λ x. g (sym x)) ∙ before-link k s.0 (λ x. f (sym x)));
    before = λ e.
        let p : 1 ≤ previous_at ws k = omega arith in
        rest.others (previous_at ws k) p g ∙ link.here e
        ∙ ap (λ (r : List ℕ). set r 5 new) (before-link (previous_at ws k) p m);
    others = λ i q a b d. rest.others i q.0 a ∙ link.others i q.0 d ∙ before-link i q.0 b;
  }

-- The words are the block with the chunk split in two.
pub split_words : (ws : List ℕ) (k new n kind label : ℕ) (z : Spot) → FreeIn ws k z → NoneIn ws new → kind ≢ 0
    → Slot ws new → n ≤ size_at ws k
    → split_stores ws k new n kind label ≡ encode (split_in_two new n kind label z (block_of ws))
split_words ws k new n kind label z h u live t l =
    split_written h u l live
    (split_rows ws k new n kind label (in_table ws k z h.place) t (previous-within h.place) (new-other h u)
    (previous-other h.place) (new-not-before h u t.0))
