-- What crosses the boundary of the byte text, by computing. Assumes nothing.
use Rattle.std.specs.Prelude.{[], ◌∷◌, ◌≡◌, refl}
use Rattle.laws.specs.Reply.{accepted, refused}
use Rattle.text_calls.specs.TextCalls.{text_out}

text_written : text_out (accepted 7, 65 ∷ []) ≡ (0, (7, 65 ∷ []))
text_written = refl

text_refused : text_out (refused 16, 65 ∷ []) ≡ (16, (0, 65 ∷ []))
text_refused = refl
