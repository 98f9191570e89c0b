-- Bytes stored in a buffer from a place on. Assumes nothing.
use Rattle.std.specs.Prelude.{ℕ, ◌+◌, ◌≤◌, List, ◌++◌, ◌≡◌, length}
use Rattle.std.proofs.Common.{arith, length-append}
use Rattle.laws.specs.Splice.{splice, splice-both}

-- `after` is `before` with s written over it from the place `at` on, up to the place `next`; s has at most `most` bytes
pub record Stored (before after : List ℕ) (at next : ℕ) (s : List ℕ) (most : ℕ) : Type 0 where
  pub ends : next ≡ at + length s
  pub holds : after ≡ splice before at s
  pub within : next ≤ at + most

-- One after the other is both at once.
pub stored-both : {xs ys zs s t : List ℕ} {at next end m n : ℕ} → at + (m + n) ≤ length xs → Stored xs ys at next s m →
    Stored ys zs next end t n → Stored xs zs at end (s ++ t) (m + n)
stored-both {xs} {ys} {zs} {s} {t} {at} {next} h p q = record {
  ends = omega (arith, length-append s t);
  holds = splice-both xs ys zs at next s t (omega (arith, length-append s t)) p.ends p.holds q.holds;
  within = omega arith;
}
