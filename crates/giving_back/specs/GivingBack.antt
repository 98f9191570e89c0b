-- Giving back and renaming on the words of a table. Assumes nothing.
use Rattle.std.specs.Prelude.{ℕ, ◌≤◌, cond, List, [], ◌∷◌, ◌≡◌}
use Rattle.std.proofs.Math.Option.{Option, none, some}
use Rattle.laws.specs.Lists.{All}
use Rattle.laws.specs.Reply.{Reply, accepted, refused}
use Rattle.model.specs.Block.{Chunk, Block, Spot, total, is_free, largest_block}
use Rattle.model.specs.Effects.{chunks_of}
use Rattle.model.specs.GivingBack.{find_live, grown, merge_left, release, rename}
use Rattle.model.specs.Placing.{with_chunks}
use Rattle.table.specs.declared.layout.Field.{Field}
use Rattle.table.specs.declared.layout.Field.TheVariants as field
use Rattle.words.specs.Words.{block_of, decode}
use Rattle.chunks.specs.Premises.{FreeIn, LiveIn}
use Rattle.opening.specs.Look.{on_table}
use Rattle.opening.specs.Calls.{leaves}
use Rattle.giving_back.specs.declared.Side.{Side}
use Rattle.giving_back.specs.declared.Side.TheVariants as side

-- a call that is told no more than that it was done
abbrev pub changes : List ℕ → Reply Block → Reply (Unit {0}) × List ℕ
changes ws r = leaves (λ b. tt) (λ b. b) ws r

-- the calls: the answer and every word after it
unfoldable pub free_on : List ℕ → ℕ → Reply (Unit {0}) × List ℕ
free_on ws id = changes ws (on_table (release id) (decode ws))

unfoldable pub rename_on : List ℕ → ℕ → ℕ → Reply (Unit {0}) × List ℕ
rename_on ws id label = changes ws (on_table (rename id label) (decode ws))

-- ---- the live chunk with an id: its slot

abbrev pub slot_found : Option Spot → Reply ℕ
slot_found none = refused 10
slot_found (some z) = accepted z.chunk.slot

unfoldable pub found_on : List ℕ → ℕ → Reply ℕ
found_on ws id = on_table (λ b. slot_found (find_live id b)) (decode ws)

-- ---- the steps of giving back

-- the free chunk, once a free next one is merged in
abbrev pub next_taken : List Chunk → Chunk → List Chunk → Spot
next_taken left c [] = record { left = left; chunk = c; right = [] }
next_taken left c (d ∷ right) =
    cond (is_free d) (record { left = left; chunk = grown c d.size; right = right })
    (record { left = left; chunk = c; right = d ∷ right })

unfoldable pub join_next : Spot → Block → Block
join_next z b = with_chunks b (chunks_of (next_taken z.left z.chunk z.right))

-- the block, once the free chunk is merged into a free previous one
unfoldable pub join_previous : Spot → Block → Block
join_previous z b = with_chunks b (merge_left z.left z.chunk z.right)

-- the two by the side on which the neighbour is
abbrev pub join_beside : Side → Spot → Block → Block
join_beside side.Next = join_next
join_beside side.Previous = join_previous

-- the word of a slot that names this neighbour's,
abbrev pub link_of : Side → Field
link_of side.Next = field.Next
link_of side.Previous = field.Previous

-- and of the two slots that of the left chunk
abbrev pub left_of : Side → ℕ → ℕ → ℕ
left_of side.Next k n = k
left_of side.Previous k n = n

-- a block has at most 2^40 bytes, and its free chunks are labelled 0, as while a chunk is given back
pub record Bounded (b : Block) : Type 0 where
  pub bytes : total b.chunks ≤ largest_block
  pub labels : All (λ c. c.kind ≡ 0 → c.label ≡ 0) b.chunks

-- slot k holds a free chunk, or a live one
abbrev pub FreeHere : List ℕ → ℕ → Type 0
FreeHere ws k = ((z : Spot) × FreeIn ws k z) × Bounded (block_of ws)

abbrev pub LiveHere : List ℕ → ℕ → Type 0
LiveHere ws k = ((z : Spot) × LiveIn ws k z) × Bounded (block_of ws)
