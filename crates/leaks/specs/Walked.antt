-- The walk, step by step, and the answers of one that hands out every chunk. Assumes nothing.
use Rattle.std.specs.Prelude.{ℕ, zero, suc, replicate, Option, None, Some}
use mathlib.Core.List.{List, [], ◌∷◌, ◌++◌, map}
use Rattle.laws.specs.Reply.{Reply, accepted}
use Rattle.leaks.specs.Leaks.{Live, step_on}

-- what n steps from a place answer on an unchanged table, each from the place that the one before left
abbrev pub walk_on : List ℕ → ℕ → ℕ → List (Reply (Option Live))
walk_on ws place zero = []
walk_on ws place (suc n) = (step_on ws place).0 ∷ walk_on ws (step_on ws place).1 n

-- these chunks are handed out one by one, and then the end is answered so many times
abbrev pub answers : List Live → ℕ → List (Reply (Option Live))
answers ls n = map (λ (l : Live). accepted (Some l)) ls ++ replicate n (accepted None)
