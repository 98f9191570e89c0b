-- What crosses the boundary of a dedicated block that is changed, by computing. Assumes nothing.
use Rattle.std.specs.Prelude.{ℕ, [], ◌∷◌, ◌≡◌, refl}
use Rattle.std.specs.Int.Count.{ones}
use Rattle.laws.specs.Reply.{accepted, refused}
use Rattle.pages.specs.Pages.{is_power_of_two}
use Rattle.model.specs.Placing.{fault}
use Rattle.dedicated.specs.Dedicated.{is_sound, id_fault, request_fault, allocate_in, free_in, rename_in}
use Rattle.outs.specs.Outs.{request}
use Rattle.dedicated.specs.RecordWords.{record_of}
use Rattle.dedicated_changes_calls.specs.DedicatedChanges.{record_out, placed_record_out}

written : record_out {A = ℕ} (accepted 5, record_of (1 ∷ 2 ∷ 3 ∷ [])) ≡ (0, 1 ∷ 2 ∷ 3 ∷ [])
written = refl

not_written : record_out {A = ℕ} (refused 18, record_of (1 ∷ 2 ∷ 3 ∷ [])) ≡ (18, 1 ∷ 2 ∷ 3 ∷ [])
not_written = refl

-- The offset comes before the id, and zeros on a refusal.
placed : placed_record_out (accepted record { offset = 1024; id = 3 }, record_of (1 ∷ 2 ∷ 3 ∷ [])) ≡ (0, 1024, 3, 1 ∷ 2 ∷ 3 ∷ [])
placed = refl

not_placed : placed_record_out (refused 11, record_of (1 ∷ 2 ∷ 3 ∷ [])) ≡ (11, 0, 0, 1 ∷ 2 ∷ 3 ∷ [])
not_placed = refl

-- ---- calls on the words of a block of 64 bytes

taken : placed_record_out (allocate_in (record_of (64 ∷ 0 ∷ 7 ∷ [])) (request 64 1 1 1 9)) ≡ (0, 0, 1, 64 ∷ 64 ∷ 9 ∷ [])
unfolding allocate_in request_fault is_sound fault is_power_of_two ones
taken = refl

freed : record_out (free_in (record_of (64 ∷ 64 ∷ 7 ∷ [])) 1) ≡ (0, 64 ∷ 0 ∷ 7 ∷ [])
unfolding free_in id_fault is_sound
freed = refl

not_freed : record_out (free_in (record_of (64 ∷ 64 ∷ 7 ∷ [])) 2) ≡ (18, 64 ∷ 64 ∷ 7 ∷ [])
unfolding free_in id_fault is_sound
not_freed = refl

renamed : record_out (rename_in (record_of (64 ∷ 64 ∷ 7 ∷ [])) 1 9) ≡ (0, 64 ∷ 64 ∷ 9 ∷ [])
unfolding rename_in id_fault is_sound
renamed = refl
