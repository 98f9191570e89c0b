-- Giving back and renaming: the live chunk with an id, and the block after it. Assumes nothing.
use Rattle.std.specs.Prelude.{ℕ, ◌+◌, Bool, not, ◌&&◌, cond, eqb}
use mathlib.Core.List.{List, [], ◌∷◌, reverse_aux}
use Rattle.std.proofs.Math.Option.{Option, none, some}
use Rattle.laws.specs.Reply.{Reply, accepted, refused}
use Rattle.model.specs.Block.{Chunk, Block, Spot, is_free, spots}
use Rattle.model.specs.Placing.{with_chunks}

-- ---- the live chunk with an id

abbrev pub is_live : ℕ → Spot → Bool
is_live id z = eqb z.chunk.id id && not (is_free z.chunk)

abbrev pub find : (Spot → Bool) → List Spot → Option Spot
find passes [] = none
find passes (z ∷ zs) = cond (passes z) (some z) (find passes zs)

abbrev pub find_live : ℕ → Block → Option Spot
find_live id b = find (is_live id) (spots [] b.chunks)

-- ---- giving back

-- the chunk, free and so many bytes longer, under its own id and in its own slot
abbrev pub grown : Chunk → ℕ → Chunk
grown c n = record { slot = c.slot; id = c.id; size = c.size + n; kind = 0; label = 0 }

-- a free previous chunk takes the free chunk in: the left id and slot survive
abbrev pub merge_left : List Chunk → Chunk → List Chunk → List Chunk
merge_left [] c right = c ∷ right
merge_left (p ∷ left) c right = cond (is_free p) (reverse_aux left (grown p c.size ∷ right)) (reverse_aux left (p ∷ c ∷ right))

-- a free next chunk is merged in first, then the result into a free previous one
abbrev pub merge_right : List Chunk → Chunk → List Chunk → List Chunk
merge_right left c [] = merge_left left c []
merge_right left c (n ∷ right) = cond (is_free n) (merge_left left (grown c n.size) right) (merge_left left c (n ∷ right))

-- the chunks once the chunk's kind and label are 0 and its free neighbours are merged
abbrev pub freed : Spot → List Chunk
freed z = merge_right z.left (grown z.chunk 0) z.right

abbrev pub release_at : Block → Option Spot → Reply Block
release_at b none = refused 10
release_at b (some z) = accepted (with_chunks b (freed z))

unfoldable pub release : ℕ → Block → Reply Block
release id b = release_at b (find_live id b)

-- ---- renaming

abbrev pub relabel : ℕ → Chunk → Chunk
relabel label c = record { slot = c.slot; id = c.id; size = c.size; kind = c.kind; label = label }

abbrev pub rename_at : ℕ → Block → Option Spot → Reply Block
rename_at label b none = refused 10
rename_at label b (some z) = accepted (with_chunks b (reverse_aux z.left (relabel label z.chunk ∷ z.right)))

unfoldable pub rename : ℕ → ℕ → Block → Reply Block
rename id label b = rename_at label b (find_live id b)
