-- What crosses the boundary, by computing. Assumes nothing.
use Rattle.std.specs.Prelude.{ℕ, true, false, [], ◌∷◌, ◌≡◌, refl}
use Rattle.laws.specs.Reply.{accepted, refused}
use Rattle.outs.specs.Outs.{value_out, flag_out, words_out, request, placed_out}

value_given : value_out (accepted 7) ≡ (0, 7)
value_given = refl

value_refused : value_out (refused 14) ≡ (14, 0)
value_refused = refl

flag_yes : flag_out (accepted true) ≡ (0, 1)
flag_yes = refl

flag_no : flag_out (accepted false) ≡ (0, 0)
flag_no = refl

flag_refused : flag_out (refused 2) ≡ (2, 0)
flag_refused = refl

words-made : words_out {A = ℕ} (accepted 5, 7 ∷ []) ≡ (0, 7 ∷ [])
words-made = refl

words-kept : words_out {A = ℕ} (refused 13, 7 ∷ []) ≡ (13, 7 ∷ [])
words-kept = refl

-- A request's five numbers are in the order of its fields; its offset is written, then its id, and zeros on a refusal.
request-order : request 1 2 3 4 5 ≡ record { size = 1; alignment = 2; kind = 3; granularity = 4; label = 5 }
request-order = refl

placed : placed_out (accepted record { offset = 1024; id = 3 }, 7 ∷ []) ≡ (0, 1024, 3, 7 ∷ [])
placed = refl

not_placed : placed_out (refused 7, 7 ∷ []) ≡ (7, 0, 0, 7 ∷ [])
not_placed = refl
