-- What crosses the boundary of a dedicated block that is asked, by computing. Assumes nothing.
use Rattle.std.specs.Prelude.{[], ◌∷◌, ◌≡◌, refl}
use Rattle.laws.specs.Reply.{accepted, refused}
use Rattle.dedicated_calls.specs.DedicatedCalls.{report_out}

-- An entry's words are its first byte, its size and its label, and zeros on a refusal.
reported : report_out (accepted record { first_byte = 1; size = 2; label = 3 }) ≡ (0, 1 ∷ 2 ∷ 3 ∷ [])
reported = refl

not_reported : report_out (refused 2) ≡ (2, 0 ∷ 0 ∷ 0 ∷ [])
not_reported = refl
