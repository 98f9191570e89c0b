-- What the division by 1024 comes to, and how long the text is. Assumes nothing.
use Rattle.std.specs.Prelude.{ℕ, zero, suc, ◌+◌, ◌-◌, ◌*◌, ◌/◌, ◌^◌, ◌≤◌, ◌<◌, ◌≡◌, refl, length}
use Rattle.std.proofs.Common.{sym, ap, ◌∙◌, div-one, arith, le-ltb}
use Rattle.std.proofs.Math.Nat.{div-div-eq-div-mul, pow-succ', sub_self}
use Rattle.laws.specs.Decimal.{decimal-short}
use Rattle.laws.specs.Powers.{fewer}
use Rattle.laws.specs.Tests.{either}
use Rattle.byte_text.specs.ByteText.{Shown, shown_as, divided, shown, hundredths, fmt_bytes}
use Rattle.byte_text.specs.ByteTextLaws.{Scaled, Bounded, divided-stops, shown-divided, shown-small, hundredths-bound, suffix-short, text_length}

-- Any other division goes on with the whole part, in the next unit.
pub divided-goes_on : (fuel unit x : ℕ) → 1024 ≤ x / 1024 → divided (suc fuel) unit x ≡ divided fuel (unit + 1) (x / 1024)
unfolding divided
divided-goes_on fuel unit x h = rw (le-ltb (x / 1024) 1024 h)

-- No division but the last.
at_once : (last unit x : ℕ) → unit ≤ last → 1024 ≤ x → x < 1024 * 1024 → Scaled unit last x (shown_as x 1024 unit)
at_once last unit x u l h =
    record { whole = sym (rw sub_self (div-one x)); low = l; high = h; over = refl; from = omega arith; to = u }

-- One division more.
once_more : (last unit x : ℕ) (s : Shown) → Scaled (unit + 1) last (x / 1024) s → Scaled unit last x s
once_more last unit x s d =
    let e : s.unit - unit ≡ suc (s.unit - (unit + 1)) = omega arith in
    record {
      whole = d.whole ∙ div-div-eq-div-mul x 1024 (1024 ^ (s.unit - (unit + 1))) ∙ ap (λ y. x / y) (sym (pow-succ' 1024 (s.unit - (unit + 1)))) ∙ ap (λ k. x / 1024 ^ k) (sym e);
      low = d.low;
      high = d.high;
      over = d.over;
      from = omega arith;
      to = d.to;
    }

-- With fuel enough for x, that is what dividing comes to.
divided-scaled : (fuel unit last x : ℕ) → unit + fuel ≡ last → 1024 ≤ x → x < 1024 ^ suc (suc fuel) →
    Scaled unit last x (divided fuel unit x)
divided-scaled zero unit last x e l h = rw (divided-stops zero unit x (omega arith)) (at_once last unit x (omega arith) l (omega arith))
divided-scaled (suc fuel) unit last x e l h =
    either _ (x / 1024) 1024
    (λ b. rw (divided-stops (suc fuel) unit x b) (at_once last unit x (omega arith) l (omega arith)))
    (λ b. rw (divided-goes_on fuel unit x b)
    (once_more last unit x _
    (divided-scaled fuel (unit + 1) last (x / 1024) (omega arith) b (fewer 1024 (suc (suc fuel)) x (omega arith) h))))

-- From 1024 on the amount shown is x / 1024 ^ (unit - 1), from 1024 to below 1024 * 1024, over 1024, in a unit from 1 to 4.
pub shown-large : (x : ℕ) → 1024 ≤ x → x < 2 ^ 50 → Scaled 1 4 x (shown x)
shown-large x l h = rw (shown-divided x l) (divided-scaled 3 1 4 x refl l h)

-- What is shown is a number below 1024, in a unit that has a name.
pub shown-bounded : (x : ℕ) → x < 2 ^ 50 → Bounded (shown x)
shown-bounded x h =
    either _ x 1024 (λ l. rw (shown-small x l) (record { quotient = omega arith; divisor = omega arith; small = omega arith; named = omega arith }))
    (λ l. let d : Scaled 1 4 x (shown x) = shown-large x l h in
    record { quotient = omega arith; divisor = omega arith; small = omega arith; named = omega arith })

-- The text of an amount below 2 ^ 50 is at most 10 bytes long.
pub fmt_bytes-short : (x : ℕ) → x < 2 ^ 50 → length (fmt_bytes x) ≤ 10
unfolding fmt_bytes
fmt_bytes-short x h =
    let s : Shown = shown x in
    let b : hundredths s ≤ 102400 = hundredths-bound s (shown-bounded x h) in
    omega (arith, text_length (hundredths s) s.unit, suffix-short s.unit, decimal-short 3 (hundredths s / 100) (omega arith))
