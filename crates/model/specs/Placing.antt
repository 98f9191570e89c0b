-- Placing: the offset of a request in a free chunk, the chunk that is chosen, and the block after it. Assumes nothing.
use Rattle.std.specs.Prelude.{ℕ, zero, suc, ◌+◌, ◌-◌, Bool, true, false, not, ◌&&◌, cond, eqb, leb, ltb}
use mathlib.Core.List.{List, [], ◌∷◌, reverse_aux}
use Rattle.std.proofs.Math.Option.{Option, none, some}
use Rattle.laws.specs.Reply.{Reply, accepted, refused}
use Rattle.laws.specs.Rounding.{align_up}
use Rattle.pages.specs.Pages.{is_power_of_two}
use Rattle.pages.specs.Vulkan.{Resource, may_stand}
use Rattle.model.specs.Block.{Chunk, Block, Spot, total, is_free, first, spots, no_id}

pub record Request : Type 0 where
  pub size : ℕ
  pub alignment : ℕ
  pub kind : ℕ
  pub granularity : ℕ
  pub label : ℕ

-- ---- neighbours, as the page rule takes them: a range of bytes and a kind

-- the nearest of the chunks on the left; kind 0, which conflicts with nothing, where there is none
abbrev pub last_of : List Chunk → Resource
last_of [] = record { offset = 0; size = 0; kind = 0 }
last_of (c ∷ cs) = record { offset = total cs; size = c.size; kind = c.kind }

-- the nearest of the chunks on the right, which begins at the address: its recorded first byte, its padding included
abbrev pub next_of : ℕ → List Chunk → Resource
next_of address [] = record { offset = address; size = 0; kind = 0 }
next_of address (c ∷ cs) = record { offset = address; size = c.size; kind = c.kind }

abbrev pub chunk_before : Spot → Resource
chunk_before z = last_of z.left

abbrev pub chunk_after : Spot → Resource
chunk_after z = next_of (first z + z.chunk.size) z.right

-- the bytes that the request would have at an offset
abbrev pub asked : Request → ℕ → Resource
asked r offset = record { offset = offset; size = r.size; kind = r.kind }

-- ---- the offset in a free chunk

-- an aligned offset, rounded up to the granularity where the chunk before ends on its page and the kinds conflict
unfoldable pub raised : Request → Resource → ℕ → ℕ
raised r before offset =
    cond (may_stand r.granularity before (asked r offset)) offset (align_up offset r.granularity)

-- the first byte of the free chunk rounded up to the alignment, then as above
unfoldable pub offset_at : Request → ℕ → Resource → ℕ
offset_at r begin before = raised r before (align_up begin r.alignment)

-- the bytes that the request takes from a free chunk: padding plus size
unfoldable pub taken_at : Request → ℕ → Resource → ℕ
taken_at r begin before = offset_at r begin before - begin + r.size

-- they fit the chunk, and the last requested byte keeps the page rule with the chunk after
unfoldable pub fits_at : Request → ℕ → ℕ → Resource → Resource → Bool
fits_at r begin size before after =
    leb (taken_at r begin before) size && may_stand r.granularity (asked r (offset_at r begin before)) after

abbrev pub offset_in : Request → Spot → ℕ
offset_in r z = offset_at r (first z) (chunk_before z)

abbrev pub taken : Request → Spot → ℕ
taken r z = taken_at r (first z) (chunk_before z)

abbrev pub holds : Request → Spot → Bool
holds r z = is_free z.chunk && fits_at r (first z) z.chunk.size (chunk_before z) (chunk_after z)

-- ---- the choice: the smallest chunk that passes, then the lowest address

abbrev pub smaller : Spot → Option Spot → Option Spot
smaller z none = some z
smaller z (some y) = cond (ltb y.chunk.size z.chunk.size) (some y) (some z)

abbrev pub best : (Spot → Bool) → List Spot → Option Spot
best passes [] = none
best passes (z ∷ zs) = cond (passes z) (smaller z (best passes zs)) (best passes zs)

abbrev pub chosen : Request → Block → Option Spot
chosen r b = best (holds r) (spots [] b.chunks)

-- ---- the block after it

abbrev pub uses_slot : ℕ → List Chunk → Bool
uses_slot n [] = false
uses_slot n (c ∷ cs) = cond (eqb c.slot n) true (uses_slot n cs)

-- the lowest empty slot from n on, of so many
abbrev pub empty_slot : ℕ → ℕ → List Chunk → ℕ
empty_slot zero n cs = n
empty_slot (suc many) n cs = cond (uses_slot n cs) (empty_slot many (suc n) cs) n

-- the lowest empty slot of the block, or one past the last where there is none
abbrev pub new_slot : Block → ℕ
new_slot b = empty_slot b.slots 1 b.chunks

-- equal sizes: the chunk becomes live under its own id
abbrev pub whole_of : Request → Chunk → Chunk
whole_of r c = record { slot = c.slot; id = c.id; size = c.size; kind = r.kind; label = r.label }

-- a larger chunk is split: the new left piece
abbrev pub piece_of : Request → ℕ → ℕ → ℕ → Chunk
piece_of r slot id size = record { slot = slot; id = id; size = size; kind = r.kind; label = r.label }

-- and the remainder, which keeps the old id
abbrev pub remainder_of : Chunk → ℕ → Chunk
remainder_of c n = record { slot = c.slot; id = c.id; size = c.size - n; kind = 0; label = 0 }

abbrev pub with_chunks : Block → List Chunk → Block
with_chunks b cs = record { size = b.size; next = b.next; slots = b.slots; chunks = cs }

abbrev pub take_whole : Request → Spot → Block → Block
take_whole r z b = with_chunks b (reverse_aux z.left (whole_of r z.chunk ∷ z.right))

abbrev pub split_off : Request → Spot → Block → Block
split_off r z b = record {
  size = b.size;
  next = suc b.next;
  slots = b.slots;
  chunks = reverse_aux z.left (piece_of r (new_slot b) b.next (taken r z) ∷ remainder_of z.chunk (taken r z) ∷ z.right);
}

-- ---- the call

pub record Placed : Type 0 where
  pub offset : ℕ
  pub id : ℕ
  pub block : Block

abbrev pub place_whole : Request → Spot → Block → Reply Placed
place_whole r z b = accepted record { offset = offset_in r z; id = z.chunk.id; block = take_whole r z b }

abbrev pub place_piece : Request → Spot → Block → Reply Placed
place_piece r z b =
    cond (eqb b.next no_id) (refused 8)
    (cond (ltb b.slots (new_slot b)) (refused 9)
    (accepted record { offset = offset_in r z; id = b.next; block = split_off r z b }))

abbrev pub place_in : Request → Block → Option Spot → Reply Placed
place_in r b none = refused 7
place_in r b (some z) = cond (ltb (taken r z) z.chunk.size) (place_piece r z b) (place_whole r z b)

-- the number of the request's first fault, 0 where it is well formed
unfoldable pub fault : Request → ℕ
fault r =
    cond (eqb r.size 0) 3
    (cond (not (is_power_of_two r.alignment)) 4
    (cond (not (is_power_of_two r.granularity)) 5
    (cond (eqb r.kind 1) 0
    (cond (eqb r.kind 2) 0 6))))

abbrev pub unless_fault : {A : Type 0} → ℕ → Reply A → Reply A
unless_fault zero a = a
unless_fault (suc n) a = refused (suc n)

unfoldable pub place : Request → Block → Reply Placed
place r b = unless_fault (fault r) (place_in r b (chosen r b))
