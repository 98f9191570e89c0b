-- What the words must allow where a chunk is cut in two, or two are joined: slots of the table, and sums that fit a word. Assumes nothing.
use Rattle.std.specs.Prelude.{ℕ, ◌+◌, ◌≤◌, ◌<◌, ◌^◌, List}
use Rattle.table.specs.Layout.{Slot, slot_count, allocated_word, next_id, size_at, first_byte_at, next_at, previous_at}

-- n bytes can be cut off the chunk in slot k, for a piece in slot new
abbrev pub CanSplit : List ℕ → ℕ → ℕ → ℕ → Type 0
CanSplit ws k new n =
    Slot ws k × Slot ws new × (previous_at ws k ≤ slot_count ws) × (n ≤ size_at ws k)
    × (first_byte_at ws k + n < 2 ^ 64) × (allocated_word ws + n < 2 ^ 64) × (next_id ws + 1 < 2 ^ 64)

-- the chunk in slot k can take in the one after it
abbrev pub CanJoin : List ℕ → ℕ → Type 0
CanJoin ws k =
    Slot ws k × Slot ws (next_at ws k) × (next_at ws (next_at ws k) ≤ slot_count ws)
    × (size_at ws k + size_at ws (next_at ws k) < 2 ^ 64)
