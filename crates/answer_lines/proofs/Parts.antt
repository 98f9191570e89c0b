-- The parts of a line, stored one after another. Assumes nothing.
use Rattle.std.proofs.Common.{ℕ, ◌+◌, ◌^◌, ◌≤◌, ◌<◌, ◌≡◌, List, [], ◌∷◌, append_assoc, arith, length}
use Rattle.std.proofs.Math.Option.{none, some}
use Rattle.laws.specs.Decimal.{decimal, decimal-short}
use Rattle.laws.specs.Splice.{splice}
use Rattle.model.specs.Lines.{line}
use Rattle.answer_lines.specs.Printed.{printed, longest}
use Rattle.answer_lines.specs.PrintedLaws.{field}
use Rattle.answer_lines.specs.Stored.{Stored, stored-both}

-- a single byte
pub one_byte : {xs ys : List ℕ} {at next b : ℕ} → (next ≡ at + 1) × (ys ≡ splice xs at (b ∷ [])) → Stored xs ys at next (b ∷ []) 1
one_byte e = record { ends = e.0; holds = e.1; within = omega arith }

-- a number and the byte behind it
pub one_field : (xs ys zs : List ℕ) (at next end n e : ℕ) → n < 2 ^ 64 → at + 21 ≤ length xs →
    (next ≡ at + length (decimal n)) × (ys ≡ splice xs at (decimal n)) →
    (end ≡ next + 1) × (zs ≡ splice ys next (e ∷ [])) → Stored xs zs at end (field n e) 21
unfolding field
one_field xs ys zs at next end n e b h p q =
    let digits : Stored xs ys at next (decimal n) 20 = record { ends = p.0; holds = p.1; within = omega (arith, decimal-short 19 n (omega arith)) } in
    stored-both h digits (one_byte q)

-- four of them
pub four_fields : {xs ys zs vs ws : List ℕ} {at second third fourth end : ℕ} (number offset id allocated : ℕ) → at + longest ≤ length xs →
    Stored xs ys at second (field number 32) 21 → Stored ys zs second third (field offset 32) 21 →
    Stored zs vs third fourth (field id 32) 21 → Stored vs ws fourth end (field allocated 10) 21 →
    Stored xs ws at end (printed (some (line number offset id allocated))) longest
unfolding field
four_fields number offset id allocated h p q r s = simp append_assoc at (stored-both h (stored-both (omega arith) (stored-both (omega arith) p q) r) s)

-- "?" alone
pub question : {xs ys zs : List ℕ} {at next end : ℕ} → at + longest ≤ length xs → Stored xs ys at next (63 ∷ []) 1 → Stored ys zs next end (10 ∷ []) 1 →
    Stored xs zs at end (printed none) longest
question h p q = let both : Stored _ _ _ _ (63 ∷ 10 ∷ []) 2 = stored-both (omega arith) p q in record { ends = both.ends; holds = both.holds; within = omega arith }
