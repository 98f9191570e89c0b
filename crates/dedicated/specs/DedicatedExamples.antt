-- Worked examples of the dedicated block, by computing. Assumes nothing.
use Rattle.std.specs.Prelude.{ℕ, ◌-◌, ◌^◌, true, false, ◌≡◌, refl, Ok, Err}
use Rattle.std.specs.Int.Count.{ones}
use Rattle.laws.specs.Reply.{accepted, refused}
use Rattle.pages.specs.Pages.{is_power_of_two}
use Rattle.model.specs.Placing.{Request, fault}
use Rattle.dedicated.specs.Dedicated.{is_sound, block, new_block, request_fault, id_fault, allocate_in, free_in, rename_in, allocated_in, is_empty_in, report_of, Entry, placed, changed}
use Rattle.dedicated.specs.declared.record.DedicatedBlock.{DedicatedBlock}
use Rattle.refusals.specs.Refusals.{reply}
use Rattle.refusals.specs.declared.Refusal.TheVariants as refusal

-- a block of 4096 bytes that nothing was ever placed in; what the examples compute with is opened here, once
empty : DedicatedBlock
unfolding is_sound new_block request_fault id_fault allocate_in free_in rename_in allocated_in is_empty_in report_of fault is_power_of_two ones
empty = block 4096 0 0

abbrev request : ℕ → ℕ → ℕ → ℕ → Request
request size alignment kind granularity = record {
  size = size;
  alignment = alignment;
  kind = kind;
  granularity = granularity;
  label = 7;
}

-- ---- new

made : new_block 4096 ≡ accepted empty
unfolding empty
made = refl

largest : new_block (2 ^ 64 - 1) ≡ accepted (block (2 ^ 64 - 1) 0 0)
unfolding empty
largest = refl

no_bytes : new_block 0 ≡ refused 13
unfolding empty
no_bytes = refl

-- ---- allocate

-- The whole block, for either kind; a large alignment makes no difference.
whole : allocate_in empty (request 4096 1 1 1) ≡ (accepted record { offset = 0; id = 1 }, block 4096 4096 7)
unfolding empty
whole = refl

aligned : allocate_in empty (request 4096 64 2 1024) ≡ (accepted record { offset = 0; id = 1 }, block 4096 4096 7)
unfolding empty
aligned = refl

-- One byte less or more.
smaller : allocate_in empty (request 4095 1 1 1) ≡ (refused 12, empty)
unfolding empty
smaller = refl

larger : allocate_in empty (request 4097 1 1 1) ≡ (refused 12, empty)
unfolding empty
larger = refl

-- Occupied comes before a size that differs.
occupied : allocate_in (block 4096 4096 7) (request 4096 1 1 1) ≡ (refused 11, block 4096 4096 7)
unfolding empty
occupied = refl

occupied_and_smaller : allocate_in (block 4096 4096 7) (request 100 1 1 1) ≡ (refused 11, block 4096 4096 7)
unfolding empty
occupied_and_smaller = refl

-- Faults of the request come before that, in their order, and an unsound record before all.
no_size : allocate_in (block 4096 4096 7) (request 0 0 0 0) ≡ (refused 3, block 4096 4096 7)
unfolding empty
no_size = refl

bad_alignment : allocate_in (block 4096 4096 7) (request 100 3 0 0) ≡ (refused 4, block 4096 4096 7)
unfolding empty
bad_alignment = refl

bad_granularity : allocate_in (block 4096 4096 7) (request 100 1 0 6) ≡ (refused 5, block 4096 4096 7)
unfolding empty
bad_granularity = refl

bad_kind : allocate_in (block 4096 4096 7) (request 100 1 0 1) ≡ (refused 6, block 4096 4096 7)
unfolding empty
bad_kind = refl

partly : allocate_in (block 4096 100 7) (request 0 0 0 0) ≡ (refused 2, block 4096 100 7)
unfolding empty
partly = refl

-- ---- free and rename

given_back_lem : free_in (block 4096 4096 7) 1 ≡ (accepted tt, block 4096 0 7)
unfolding empty
given_back_lem = refl

given_back-twice : free_in (block 4096 0 7) 1 ≡ (accepted tt, block 4096 0 7)
unfolding empty
given_back-twice = refl

free_0 : free_in (block 4096 4096 7) 0 ≡ (refused 18, block 4096 4096 7)
unfolding empty
free_0 = refl

free_2 : free_in (block 4096 4096 7) 2 ≡ (refused 18, block 4096 4096 7)
unfolding empty
free_2 = refl

free_unsound : free_in (block 0 0 7) 2 ≡ (refused 2, block 0 0 7)
unfolding empty
free_unsound = refl

renamed : rename_in (block 4096 4096 7) 1 8 ≡ (accepted tt, block 4096 4096 8)
unfolding empty
renamed = refl

renamed_empty : rename_in empty 1 8 ≡ (accepted tt, block 4096 0 8)
unfolding empty
renamed_empty = refl

rename-0 : rename_in empty 0 8 ≡ (refused 18, empty)
unfolding empty
rename-0 = refl

rename-unsound : rename_in (block 4096 4097 7) 2 8 ≡ (refused 2, block 4096 4097 7)
unfolding empty
rename-unsound = refl

-- ---- the questions

asked : allocated_in (block 4096 4096 7) ≡ accepted 4096
unfolding empty
asked = refl

asked-empty : is_empty_in (block 4096 0 7) ≡ accepted true
unfolding empty
asked-empty = refl

asked-occupied : is_empty_in (block 4096 4096 7) ≡ accepted false
unfolding empty
asked-occupied = refl

reported : report_of (block 4096 4096 7) ≡ accepted record { first_byte = 0; size = 4096; label = 7 }
unfolding empty
reported = refl

reported_empty : report_of (block 4096 0 7) ≡ accepted record { first_byte = 0; size = 4096; label = 7 }
unfolding empty
reported_empty = refl

unsound_asked : allocated_in (block 0 0 0) ≡ refused 2
unfolding empty
unsound_asked = refl

unsound_empty : is_empty_in (block 4096 1 0) ≡ refused 2
unfolding empty
unsound_empty = refl

unsound_reported : report_of (block 4096 4097 7) ≡ refused 2
unfolding empty
unsound_reported = refl

-- ---- what the code's answers stand for

new_told : reply (Ok (block 1 2 3)) ≡ accepted (block 1 2 3)
new_told = refl

report_told : reply {A = Entry} (Ok record { first_byte = 1; size = 2; label = 3 }) ≡ accepted record { first_byte = 1; size = 2; label = 3 }
report_told = refl

placed-told : placed (block 6 7 8) (Ok (record { offset = 4; id = 5 }, block 1 2 3)) ≡ (accepted record { offset = 4; id = 5 }, block 1 2 3)
placed-told = refl

changed-told : changed (block 1 2 3) (Err refusal.NotId1) ≡ (refused 18, block 1 2 3)
changed-told = refl
