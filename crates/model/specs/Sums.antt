-- Sums over the chunks of a block that is cut in two. Assumes nothing.
use Rattle.std.specs.Prelude.{ℕ, ◌+◌, ◌≤◌, ◌≡◌}
use Rattle.std.proofs.Common.{arith}
use mathlib.Core.List.{List, [], ◌∷◌, reverse_aux}
use Rattle.laws.specs.Tests.{cond_cases}
use Rattle.model.specs.Block.{Chunk, sum_of, total, is_free, live_size, allocated}

-- the sum over the whole is that over both parts
sum-cut : (f : Chunk → ℕ) (l r : List Chunk) → sum_of f (reverse_aux l r) ≡ sum_of f l + sum_of f r
sum-cut f [] r = omega arith
sum-cut f (c ∷ l) r = omega (arith, sum-cut f l (c ∷ r))

-- The bytes of the whole are those of both parts.
pub total-cut : (l r : List Chunk) → total (reverse_aux l r) ≡ total l + total r
total-cut = sum-cut (λ c. c.size)

-- So are the bytes of the live chunks.
pub allocated-cut : (l r : List Chunk) → allocated (reverse_aux l r) ≡ allocated l + allocated r
allocated-cut = sum-cut live_size

-- They are no more than those of all chunks.
pub allocated-most : (cs : List Chunk) → allocated cs ≤ total cs
allocated-most [] = omega arith
allocated-most (c ∷ cs) =
    let h = allocated-most cs in
    cond_cases (λ n. n + allocated cs ≤ c.size + total cs) (is_free c) (λ t. omega arith) (λ t. omega arith)
