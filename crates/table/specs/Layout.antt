-- Where the words of a table stand: a head of four words, then seven for each slot. Assumes nothing.
use Rattle.std.specs.Prelude.{ℕ, zero, suc, ◌+◌, ◌-◌, ◌*◌, ◌/◌, ◌≤◌, ◌<◌, Bool, true, List, [], ◌∷◌, ◌≡◌, refl, eqb, leb, length, get_or}
use Rattle.std.proofs.Common.{arith, leb-true, eqb-true}
use Rattle.laws.specs.Every.{every, pass}

-- the words of a table of so many slots, and the slots of so many words
abbrev pub word_count : ℕ → ℕ
word_count slots = 4 + 7 * slots

abbrev pub slot_count : List ℕ → ℕ
slot_count ws = (length ws - 4) / 7

-- the slots and the words of the largest table
abbrev pub most_slots : ℕ
most_slots = 512

abbrev pub most_words : ℕ
most_words = word_count most_slots

-- the word count is 4 + 7s, s from 1 to 512
unfoldable pub is_table : List ℕ → Bool
is_table ws = every (leb 1 (slot_count ws) ∷ leb (slot_count ws) 512 ∷ eqb (length ws) (word_count (slot_count ws)) ∷ [])

-- What the length of a table says.
pub table_shape : (ws : List ℕ) → is_table ws ≡ true → (1 ≤ slot_count ws) × (slot_count ws ≤ 512) × (length ws ≡ word_count (slot_count ws))
unfolding is_table
table_shape ws e = (leb-true _ _ (pass _ 0 e), leb-true _ _ (pass _ 1 e), eqb-true _ _ (pass _ 2 e))

-- k is the number of a slot
abbrev pub Slot : List ℕ → ℕ → Type 0
Slot ws k = (1 ≤ k) × (k ≤ slot_count ws)

-- ---- the head: block size, allocated, next id, number of the slot that starts at 0

abbrev pub block_size : List ℕ → ℕ
block_size ws = get_or ws 0 0

abbrev pub allocated_word : List ℕ → ℕ
allocated_word ws = get_or ws 1 0

abbrev pub next_id : List ℕ → ℕ
next_id ws = get_or ws 2 0

abbrev pub first_slot : List ℕ → ℕ
first_slot ws = get_or ws 3 0

-- ---- a slot: id, size, first byte, kind, label, next slot number, previous slot number

-- where word j of slot k stands
abbrev pub at : ℕ → ℕ → ℕ
at k j = 4 + 7 * (k - 1) + j

abbrev pub word : List ℕ → ℕ → ℕ → ℕ
word ws k j = get_or ws (at k j) 0

abbrev pub id_at : List ℕ → ℕ → ℕ
id_at ws k = word ws k 0

abbrev pub size_at : List ℕ → ℕ → ℕ
size_at ws k = word ws k 1

abbrev pub first_byte_at : List ℕ → ℕ → ℕ
first_byte_at ws k = word ws k 2

abbrev pub kind_at : List ℕ → ℕ → ℕ
kind_at ws k = word ws k 3

abbrev pub label_at : List ℕ → ℕ → ℕ
label_at ws k = word ws k 4

abbrev pub next_at : List ℕ → ℕ → ℕ
next_at ws k = word ws k 5

abbrev pub previous_at : List ℕ → ℕ → ℕ
previous_at ws k = word ws k 6

-- the words of slot k, and those of an empty slot
abbrev pub row : List ℕ → ℕ → List ℕ
row ws k = id_at ws k ∷ size_at ws k ∷ first_byte_at ws k ∷ kind_at ws k ∷ label_at ws k ∷ next_at ws k ∷ previous_at ws k ∷ []

abbrev pub empty_row : List ℕ
empty_row = 0 ∷ 0 ∷ 0 ∷ 0 ∷ 0 ∷ 0 ∷ 0 ∷ []

-- Word f of a row is word f of the slot.
pub row_word : (ws : List ℕ) (k f : ℕ) → f < 7 → get_or (row ws k) f 0 ≡ word ws k f
row_word ws k zero l = refl
row_word ws k (suc zero) l = refl
row_word ws k (suc (suc zero)) l = refl
row_word ws k (suc (suc (suc zero))) l = refl
row_word ws k (suc (suc (suc (suc zero)))) l = refl
row_word ws k (suc (suc (suc (suc (suc zero))))) l = refl
row_word ws k (suc (suc (suc (suc (suc (suc zero)))))) l = refl
row_word ws k (suc (suc (suc (suc (suc (suc (suc f))))))) l = absurd (omega arith)
