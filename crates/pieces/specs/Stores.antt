-- The stores of the steps' parts. A link to slot 0 is none, and before the first chunk stands the head. Assumes nothing.
use Rattle.std.specs.Prelude.{ℕ, cond, List, ◌≢◌, ◌≡◌, eqb, set}
use Rattle.std.proofs.Common.{eq-eqb, ne_eqb}
use Rattle.table.specs.Layout.{at}

-- slot k comes after slot p
unfoldable pub next_of_set : List ℕ → ℕ → ℕ → List ℕ
next_of_set ws p k = cond (eqb p 0) (set ws 3 k) (set ws (at p 5) k)

-- slot k comes before slot n
unfoldable pub previous_of_set : List ℕ → ℕ → ℕ → List ℕ
previous_of_set ws n k = cond (eqb n 0) ws (set ws (at n 6) k)

-- the chunk in slot k begins at `first`, after slot new, and has so many bytes
unfoldable pub shortened : List ℕ → ℕ → ℕ → ℕ → ℕ → List ℕ
shortened ws k first size new = set (set (set ws (at k 1) size) (at k 2) first) (at k 6) new

-- Nothing before: the head is told.
pub next_of-none : (ws : List ℕ) (p k : ℕ) → p ≡ 0 → next_of_set ws p k ≡ set ws 3 k
unfolding next_of_set
next_of-none ws p k e = rw (eq-eqb p 0 e)

-- A slot before: it is told.
pub next_of-slot : (ws : List ℕ) (p k : ℕ) → p ≢ 0 → next_of_set ws p k ≡ set ws (at p 5) k
unfolding next_of_set
next_of-slot ws p k f = rw (ne_eqb p 0 f)

-- Nothing after: nothing is told.
pub previous_of_none : (ws : List ℕ) (n k : ℕ) → n ≡ 0 → previous_of_set ws n k ≡ ws
unfolding previous_of_set
previous_of_none ws n k e = rw (eq-eqb n 0 e)

-- A slot after: it is told.
pub previous_of_slot : (ws : List ℕ) (n k : ℕ) → n ≢ 0 → previous_of_set ws n k ≡ set ws (at n 6) k
unfolding previous_of_set
previous_of_slot ws n k f = rw (ne_eqb n 0 f)
