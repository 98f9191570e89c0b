-- What the functions of `byte_text` write and answer, over plain numbers and lists. Assumes nothing.
use Prim.Native.Nat.{ℕ, zero, suc, ◌+◌, ◌-◌, ◌/◌, ◌^◌, ◌≤◌, ◌<◌}
use mathlib.Core.Path.{◌≡◌, refl, sym, ap, ◌∙◌}
use mathlib.Core.List.{List, [], ◌∷◌, ◌++◌, append_assoc}
use native.Mathlib.Omega.{arith}
use native.Mathlib.Numerals.{towards_suc}
use lib.ListN.{length, set, length-append}
use Rattle.std.specs.Prelude.{slice_index_or}
use Rattle.laws.specs.Decimal.{decimal}
use borrow.Author.Tests.{lt-ltb, le-ltb, le-leb, lt-leb}
use Rattle.laws.specs.Reply.{accepted, refused}
use Rattle.laws.specs.Splice.{splice, splice-both, splice-sets, splice_front}
use Rattle.byte_text.specs.ByteText.{Shown, place, places, suffix, divided, shown, hundredths, text_of, fmt_bytes, fmt_bytes_into}
use Rattle.byte_text.specs.declared.Unit.TheVariants as units
use Rattle.byte_text.specs.ByteTextLaws.{text_length}
use Rattle.byte_text.proofs.Dividing.{divided-goes_on}

-- ---- the places
-- four bytes, one place after another
pub four : (xs : List ℕ) (at a b c d : ℕ) → at + 4 ≤ length xs →
    set (set (set (set xs at a) (at + 1) b) (at + 2) c) (at + 3) d ≡ splice xs at (a ∷ b ∷ c ∷ d ∷ [])
four xs at a b c d h = simp towards_suc (sym (splice-sets xs at (a ∷ b ∷ c ∷ d ∷ []) h))

-- ---- the text
-- the digits, the places and the unit's name, one after another from the front
pub text : (xs ys zs ws : List ℕ) (point name h unit : ℕ) → length (text_of h unit) ≤ length xs →
    point ≡ 0 + length (decimal (h / 100)) → ys ≡ splice xs 0 (decimal (h / 100)) →
    name ≡ point + 4 → zs ≡ splice ys point (places h) →
    ws ≡ splice zs name (suffix unit) → ws ≡ splice xs 0 (text_of h unit)
unfolding text_of
text xs ys zs ws point name h unit b e a f g k =
    let d : List ℕ = decimal (h / 100) in
    let p : List ℕ = places h in
    let two : zs ≡ splice xs 0 (d ++ p) = splice-both xs ys zs 0 point d p (omega (arith, length-append d p, text_length h unit)) e a g in
    splice-both xs zs ws 0 name (d ++ p) (suffix unit)
    (omega (arith, length-append d p, length-append (d ++ p) (suffix unit), text_length h unit))
    (omega (arith, length-append d p)) two k
    ∙ ap (splice xs 0) (append_assoc d p (suffix unit))

-- what was computed on the way is the text of the amount
pub text_is : (x h : ℕ) (s : Shown) → s ≡ shown x → h ≡ hundredths s → text_of h s.unit ≡ fmt_bytes x
unfolding fmt_bytes
text_is x h s e f = rw (f, e)

-- ---- the answers
-- refusal 15, refusal 16, and the text
pub too_much : (x : ℕ) (buf : List ℕ) → 2 ^ 50 ≤ x → (refused 15, buf) ≡ fmt_bytes_into x buf
unfolding fmt_bytes_into
too_much x buf h = rw (le-leb (2 ^ 50) x h)

pub too_short : (x n : ℕ) (buf : List ℕ) → x < 2 ^ 50 → n ≡ length (fmt_bytes x) → length buf < n →
    (refused 16, buf) ≡ fmt_bytes_into x buf
unfolding fmt_bytes_into
too_short x n buf h e l = rw (lt-leb (2 ^ 50) x h, lt-ltb (length buf) (length (fmt_bytes x)) (omega arith))

pub written : (x n : ℕ) (buf out : List ℕ) → x < 2 ^ 50 → n ≡ length (fmt_bytes x) → n ≤ length buf →
    out ≡ splice buf 0 (fmt_bytes x) → (accepted n, out) ≡ fmt_bytes_into x buf
unfolding fmt_bytes_into
written x n buf out h e l o =
    rw (lt-leb (2 ^ 50) x h, le-ltb (length buf) (length (fmt_bytes x)) (omega arith), e, o, splice_front buf (fmt_bytes x))

-- ---- the loop of `Shown::of`
-- One division more, at the unit with this index.
pub turn : (index amount left : ℕ) → index < 3 → 1024 ≤ left / 1024 → divided (3 - index) (index + 1) left ≡ divided 3 1 amount →
    divided (3 - (index + 1)) (index + 1 + 1) (left / 1024) ≡ divided 3 1 amount
turn zero amount left l h e = sym (divided-goes_on 2 1 left h) ∙ e
turn (suc zero) amount left l h e = sym (divided-goes_on 1 2 left h) ∙ e
turn (suc (suc zero)) amount left l h e = sym (divided-goes_on 0 3 left h) ∙ e
turn (suc (suc (suc index))) amount left l h e = absurd (omega arith)

-- The unit with this index, from KB on.
pub unit_at : (index : ℕ) → index < 3 → place (slice_index_or (units.KB ∷ units.MB ∷ units.GB ∷ []) index units.B) ≡ index + 1
unit_at zero l = refl
unit_at (suc zero) l = refl
unit_at (suc (suc zero)) l = refl
unit_at (suc (suc (suc index))) l = absurd (omega arith)
