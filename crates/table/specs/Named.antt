-- The words of a table by name, as the code asks for them. Assumes nothing.
use Rattle.std.specs.Prelude.{ℕ, List}
use Rattle.table.specs.Layout.{at, block_size, allocated_word, next_id, first_slot, id_at, size_at, first_byte_at, kind_at, label_at, next_at, previous_at}
use Rattle.table.specs.declared.layout.HeadField.{HeadField}
use Rattle.table.specs.declared.layout.HeadField.TheVariants as in-head
use Rattle.table.specs.declared.layout.Field.{Field}
use Rattle.table.specs.declared.layout.Field.TheVariants as field

-- ---- what a name asks for

-- a word of the head
abbrev pub head_word : HeadField → List ℕ → ℕ
head_word in-head.BlockSize = block_size
head_word in-head.Allocated = allocated_word
head_word in-head.NextId = next_id
head_word in-head.FirstSlot = first_slot

-- a word of the slot with this number
abbrev pub field_at : Field → List ℕ → ℕ → ℕ
field_at field.Id = id_at
field_at field.Size = size_at
field_at field.FirstByte = first_byte_at
field_at field.Kind = kind_at
field_at field.Label = label_at
field_at field.Next = next_at
field_at field.Previous = previous_at

-- ---- where it stands

-- its place in the head
abbrev pub head_place : HeadField → ℕ
head_place in-head.BlockSize = 0
head_place in-head.Allocated = 1
head_place in-head.NextId = 2
head_place in-head.FirstSlot = 3

-- its place in a slot
abbrev pub place_of : Field → ℕ
place_of field.Id = 0
place_of field.Size = 1
place_of field.FirstByte = 2
place_of field.Kind = 3
place_of field.Label = 4
place_of field.Next = 5
place_of field.Previous = 6

-- its place in the table, in slot k
abbrev pub place_at : ℕ → Field → ℕ
place_at k f = at k (place_of f)
