-- The stores that join two free neighbours, and the block that the words are then. Assumes nothing.
use Prim.Native.Nat.{ℕ, ◌+◌, ◌≤◌, ◌<◌}
use native.Mathlib.Omega.{arith}
use mathlib.Core.List.{List}
use mathlib.Core.Logic.{◌≢◌}
use mathlib.Core.Path.{◌≡◌, sym, ap, ◌∙◌}
use lib.ListN.{get_or, set}
use Rattle.model.specs.Block.{Chunk}
use Rattle.table.specs.Layout.{slot_count, Slot, size_at, next_at, at, row, empty_row}
use Rattle.stores.specs.declared.Row.{Row}
use Rattle.stores.specs.Stores.{set_row, OnlySlot, nothing, stored, row_written}
use Rattle.words.specs.Words.{encode, block_of}
use Rattle.words.proofs.Spots.{in_table}
use Rattle.pieces.specs.JoinedWords.{JoinedRows}
use Rattle.pieces.proofs.JoinedWords.{taken-slot, after-within, after-other, after_kept, join_written}
use Rattle.chunks.specs.Premises.{TwoFree}
use Rattle.chunks.specs.Sides.{next-other}
use Rattle.pieces.specs.Steps.{joined}
use Rattle.pieces.specs.Stores.{previous_of_set}
use Rattle.pieces.proofs.LinkStores.{PreviousTold, previous_told}

-- the row of an empty slot
abbrev pub no_row : Row
no_row = record { id = 0; size = 0; first_byte = 0; kind = 0; label = 0; next = 0; previous = 0 }

pub all_zeros : {r : Row} → r.id ≡ 0 → r.size ≡ 0 → r.first_byte ≡ 0 → r.kind ≡ 0 → r.label ≡ 0 → r.next ≡ 0 → r.previous ≡ 0
    → r ≡ no_row
all_zeros id size first kind label next previous =
    λ i. record { id = id i; size = size i; first_byte = first i; kind = kind i; label = label i; next = next i; previous = previous i }

-- the slot after slot k is emptied
abbrev emptied : List ℕ → ℕ → List ℕ
emptied ws k = set_row ws (next_at ws k) no_row

-- then the chunk in slot k is longer, and the slot after both comes next
abbrev lengthened : List ℕ → ℕ → List ℕ
lengthened ws k =
    set (set (emptied ws k) (at k 1) (size_at ws k + size_at ws (next_at ws k))) (at k 5) (next_at ws (next_at ws k))

-- then that slot is told
abbrev join_stores : List ℕ → ℕ → List ℕ
join_stores ws k = previous_of_set (lengthened ws k) (next_at ws (next_at ws k)) k

-- where the stores go to three different slots
module _ (ws : List ℕ) (k : ℕ) (s : Slot ws k) (t : Slot ws (next_at ws k)) (l : next_at ws (next_at ws k) ≤ slot_count ws)
    (f : next_at ws k ≢ k) (g : next_at ws (next_at ws k) ≢ next_at ws k) (m : next_at ws (next_at ws k) ≢ k) where
  -- the three steps
  empty : OnlySlot ws (emptied ws k) (next_at ws k) empty_row
  empty = row_written ws (next_at ws k) no_row t

  longer : OnlySlot (emptied ws k) (lengthened ws k) k
      (set (set (row (emptied ws k) k) 1 (size_at ws k + size_at ws (next_at ws k))) 5 (next_at ws (next_at ws k)))
  longer =
      let q : Slot (emptied ws k) k = rw empty.count s in
      stored q (stored q (nothing (emptied ws k) k) 1 (size_at ws k + size_at ws (next_at ws k)) (omega arith)) 5
      (next_at ws (next_at ws k)) (omega arith)

  link : PreviousTold (lengthened ws k) (join_stores ws k) (next_at ws (next_at ws k)) k
  link =
      let e = longer.count ∙ empty.count in
      previous_told (lengthened ws k) (next_at ws (next_at ws k)) k (rw e l)

  head-joined : (j : ℕ) → j < 4 → get_or (join_stores ws k) j 0 ≡ get_or ws j 0
  head-joined j q = link.head j q ∙ longer.head j q ∙ empty.head j q

  join-rows : JoinedRows ws (join_stores ws k) k
  join-rows = record {
    count = link.count ∙ longer.count ∙ empty.count;
    size = head-joined 0 (omega arith);
    allocated = head-joined 1 (omega arith);
    next = head-joined 2 (omega arith);
    first = head-joined 3 (omega arith);
    kept =
        link.others k s.0 (λ x. m (sym x)) ∙ longer.here
        ∙ ap (λ (r : List ℕ). set (set r 1 (size_at ws k + size_at ws (next_at ws k))) 5 (next_at ws (next_at ws k)))
        (empty.others k s.0 (λ x. f (sym x)));
    taken = link.others (next_at ws k) t.0 (λ x. g (sym x)) ∙ longer.others (next_at ws k) t.0 f ∙ empty.here;
    after = λ e.
        let p : 1 ≤ next_at ws (next_at ws k) = omega arith in
        link.here e
        ∙ ap (λ (r : List ℕ). set r 6 k)
        (longer.others (next_at ws (next_at ws k)) p m ∙ empty.others (next_at ws (next_at ws k)) p g);
    others = λ i q a b d. link.others i q.0 d ∙ longer.others i q.0 a ∙ empty.others i q.0 b;
  }

-- The words are the block with the two chunks joined.
pub join_words : (ws : List ℕ) (k : ℕ) (left : List Chunk) (c d : Chunk) (right : List Chunk) → TwoFree ws k left c d right
    → join_stores ws k ≡ encode (joined left c d right (block_of ws))
join_words ws k left c d right h =
    join_written h
    (join-rows ws k (in_table ws k _ h.place) (taken-slot h) (after-within h) (next-other h.place) (after-other h)
    (after_kept h))
