-- The slot that a new chunk takes. Definitions. Assumes nothing.
use Rattle.std.specs.Prelude.{ℕ, ◌+◌, ◌≤◌, ◌<◌, ◌≢◌, ◌≡◌}
use mathlib.Core.List.{List, Memᴰ}
use Rattle.laws.specs.Lists.{All}
use Rattle.model.specs.Block.{Chunk}

-- a chunk has the slot n
abbrev pub Used : ℕ → List Chunk → Type 0
Used n cs = (c : Chunk) × Memᴰ c cs × (c.slot ≡ n)

-- no chunk has the slot n
abbrev pub Unused : ℕ → List Chunk → Type 0
Unused n cs = All (λ c. c.slot ≢ n) cs

-- m is the lowest of the `many` slots from n on that no chunk has, or the one past them
pub record LowestEmpty (cs : List Chunk) (many n m : ℕ) : Type 0 where
  pub from : n ≤ m
  pub to : m ≤ n + many
  pub below : (k : ℕ) → n ≤ k → k < m → Used k cs
  pub empty : m < n + many → Unused m cs
