-- Block sizes at the boundary: the numbers and words that stand for each answer. Assumes nothing.
use Rattle.std.specs.Prelude.{ℕ, Bool, not, List, [], ◌∷◌, eqb}
use Rattle.laws.specs.Reply.{Reply, accepted, refused}
use Rattle.sizes.specs.declared.AllocationSizes.{AllocationSizes}
use Rattle.sizes.specs.Sizes.{words}

-- the number given back and the four words written: zeros on a refusal
abbrev pub sizes_out : Reply AllocationSizes → ℕ × List ℕ
sizes_out (accepted s) = (0, words s)
sizes_out (refused n) = (n, 0 ∷ 0 ∷ 0 ∷ 0 ∷ [])

-- 0 asks for device blocks, any other number for host blocks
abbrev pub is_host : ℕ → Bool
is_host flag = not (eqb flag 0)
