-- The lowest live chunk from an address on, in the words of a table. Assumes nothing.
use Rattle.std.specs.Prelude.{ℕ, ◌≤◌, Option, None, Some}
use mathlib.Core.List.{List, [], ◌∷◌}
use Rattle.table.specs.Layout.{first_byte_at}
use Rattle.leaks.specs.Leaks.{Live}
use Rattle.leaks.specs.Lives.{LiveSlot}

-- the first of the chunks, if there is one
abbrev pub first_of : List Live → Option Live
first_of [] = None
first_of (l ∷ ls) = Some l

-- slot k is a live chunk's that begins at the address or later
abbrev pub LiveFrom : List ℕ → ℕ → ℕ → Type 0
LiveFrom ws address k = LiveSlot ws k × (address ≤ first_byte_at ws k)

-- slot k is the lowest of them, by first byte
abbrev pub LowestFrom : List ℕ → ℕ → ℕ → Type 0
LowestFrom ws address k = LiveFrom ws address k × ((j : ℕ) → LiveFrom ws address j → first_byte_at ws k ≤ first_byte_at ws j)
