-- What a line that is read one byte at a time asks for: the law of `ReadLaws` that rests on `FromBytes`. Assumes nothing.
use Rattle.std.specs.Prelude.{ℕ, List, [], ◌∷◌, ◌≡◌, refl}
use Rattle.std.proofs.Common.{⊎_elim, sym, ap, ◌∙◌}
use Rattle.laws.specs.Every.{every, cases}
use Rattle.call_lines.specs.Format.{cut, fields, asked_in, read_line}
use Rattle.call_lines.specs.Reading.{fresh, lettered, is_letter, fed_all, is_asking, asked}
use Rattle.call_lines.specs.ReadSteps.{letter_no_space, first-letter, first-other}
use Rattle.call_lines.proofs.FromBytes.{next, dead, cut-other, after-letter, unread}

-- Of every line, the reader that is fed its bytes asks for what the format says that the line asks for.
pub line_read : (s : List ℕ) → asked (fed_all fresh s) ≡ read_line s
unfolding fed_all asked is_asking every read_line fields cut asked_in
line_read [] = refl
line_read (b ∷ s) =
    ⊎_elim
    (λ e. next fresh (lettered b) b s (first-letter b e) (after-letter s b ∙ sym (ap asked_in (cut-other b s (letter_no_space b e)))))
    (λ e. dead fresh b s (first-other b e) (unread b s e))
    (cases (is_letter b))
