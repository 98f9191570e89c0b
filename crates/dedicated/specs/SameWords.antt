-- The order of a record's three words, by computing, and that reading and writing them changes none. Assumes nothing.
use Rattle.std.specs.Prelude.{ℕ, List, [], ◌∷◌, ◌≡◌, refl, length}
use Rattle.std.proofs.Common.{arith}
use Rattle.dedicated.specs.RecordWords.{record_of, words_of}

-- A record's words are its size, what is allocated and its label, in and out.
record_order : record_of (1 ∷ 2 ∷ 3 ∷ []) ≡ record { size = 1; allocated = 2; label = 3 }
record_order = refl

words-order : words_of (record { size = 1; allocated = 2; label = 3 }) ≡ 1 ∷ 2 ∷ 3 ∷ []
words-order = refl

-- Three words read as a record and written again are the same three.
pub same-words : (ws : List ℕ) → length ws ≡ 3 → words_of (record_of ws) ≡ ws
same-words [] e = absurd (omega arith)
same-words (x ∷ []) e = absurd (omega arith)
same-words (x ∷ y ∷ []) e = absurd (omega arith)
same-words (x ∷ y ∷ z ∷ []) e = refl
same-words (x ∷ y ∷ z ∷ w ∷ ws) e = absurd (omega arith)
