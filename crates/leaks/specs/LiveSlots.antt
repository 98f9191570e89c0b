-- The test of the search, by the words of a slot. Assumes nothing.
use Rattle.std.specs.Prelude.{ℕ, Bool, not, ◌&&◌, List, eqb, leb}
use Rattle.table.specs.Layout.{first_byte_at, kind_at}

-- the chunk in slot k is live and begins at the address or later
unfoldable pub is_from_at : List ℕ → ℕ → ℕ → Bool
is_from_at ws k address = not (eqb (kind_at ws k) 0) && leb address (first_byte_at ws k)
