-- Questions that a block answers: the bytes allocated, and whether there are any. Assumes nothing.
use Rattle.std.specs.Prelude.{ℕ, Bool, List, eqb}
use Rattle.laws.specs.Reply.{Reply, accepted}
use Rattle.model.specs.Block.{allocated}
use Rattle.words.specs.Words.{decode}
use Rattle.opening.specs.Look.{on_table}

-- the sum of the live sizes, padding included
unfoldable pub allocated_on : List ℕ → Reply ℕ
allocated_on ws = on_table (λ b. accepted (allocated b.chunks)) (decode ws)

-- nothing is allocated
unfoldable pub is_empty_on : List ℕ → Reply Bool
is_empty_on ws = on_table (λ b. accepted (eqb (allocated b.chunks) 0)) (decode ws)
