-- What crosses the boundary of a dedicated block's record, by computing. Assumes nothing.
use Rattle.std.specs.Prelude.{[], ◌∷◌, ◌≡◌, refl}
use Rattle.laws.specs.Reply.{accepted, refused}
use Rattle.dedicated.specs.RecordWords.{record_of}
use Rattle.dedicated_words.specs.RecordOut.{new_out}

made : new_out (accepted (record_of (1 ∷ 2 ∷ 3 ∷ []))) (7 ∷ 8 ∷ 9 ∷ []) ≡ (0, 1 ∷ 2 ∷ 3 ∷ [])
made = refl

not_made : new_out (refused 13) (7 ∷ 8 ∷ 9 ∷ []) ≡ (13, 7 ∷ 8 ∷ 9 ∷ [])
not_made = refl
