-- Blocks whose chunks are each in a slot of their own, sound or not: they are read back from what they are written as.
-- Assumes nothing.
use Rattle.std.specs.Prelude.{ℕ, ◌≤◌, true, List, ◌≡◌, length}
use Rattle.std.proofs.lemmas.List.{length-map}
use Rattle.laws.specs.Counting.{Within, distinct-pairs, distinct-fits, has-element}
use Rattle.laws.specs.Lists.{all_map, all_at}
use Rattle.laws.specs.Mapped.{all-mapped, pairs-mapped}
use Rattle.laws.specs.Members.{distinct}
use Rattle.model.specs.Block.{Block}
use Rattle.model.specs.Soundness.{Sound}
use Rattle.table.specs.Layout.{slot_count, first_slot, row}
use Rattle.words.specs.Words.{slot_of, row_at, encode, chunks_of, block_of, slots_of}
use Rattle.words.proofs.Rows.{encode-slots, encode-head, encode-row}
use Rattle.words.specs.Linked.{Linked}
use Rattle.words.proofs.Linked.{row_at-linked, linked_read}
use Rattle.words.specs.Laid.{Laid}

-- A sound block is laid so.
pub sound-laid : (b : Block) → Sound b → Laid b
sound-laid b h = record { slots = h.slots; places = h.places; apart = h.apart }

-- No two chunks are in one slot.
pub slots_distinct : (b : Block) → Laid b → distinct (slots_of b.chunks) ≡ true
slots_distinct b h = (distinct-pairs (slots_of b.chunks)).1 ((pairs-mapped _ _ b.chunks).1 h.apart)

-- each is in a slot of the table
slots_within : (b : Block) → Laid b → Within b.slots (slots_of b.chunks)
slots_within b h = (all-mapped _ _ b.chunks).1 h.places

-- There are at most as many chunks as slots.
pub chunks_fit : (b : Block) → Laid b → length b.chunks ≤ b.slots
chunks_fit b h =
    let f = distinct-fits (slots_of b.chunks) b.slots (slots_distinct b h) (slots_within b h) in
    simp length-map at f

-- Words with the slots of such a block are linked as its chunks.
pub linked : (ws : List ℕ) (b : Block) → Laid b
    → ((k : ℕ) → 1 ≤ k → k ≤ b.slots → row ws k ≡ row_at 0 0 b.chunks k)
    → Linked ws 0 (slot_of b.chunks) 0 b.chunks
linked ws b h r =
    row_at-linked ws 0 0 b.chunks (slots_distinct b h)
    (λ k t.
    let p = all_at _ (slots_of b.chunks) (slots_within b h) k ((has-element k _).0 t) in
    r k p.0 p.1)

chunks_back : (b : Block) → Laid b → chunks_of (encode b) ≡ b.chunks
unfolding chunks_of
chunks_back b h =
    let l : length b.chunks ≤ slot_count (encode b) = rw (encode-slots b) (chunks_fit b h) in
    linked_read (encode b) (slot_count (encode b)) 0 (first_slot (encode b)) 0 b.chunks
    (all_map (λ c p. p.0) b.chunks h.places) l (rw (encode-head b).3 (linked (encode b) b h (encode-row b)))

-- The block that is read from what such a block is written as is that block.
pub block_back : (b : Block) → Laid b → block_of (encode b) ≡ b
unfolding block_of encode
block_back b h = λ i. record { size = b.size; next = b.next; slots = encode-slots b i; chunks = chunks_back b h i }
