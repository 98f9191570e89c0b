-- The ways out of the test whether a chunk is better than the best so far. Assumes nothing.
use Rattle.std.proofs.Common.{◌≡◌, ℕ, ◌+◌, ◌-◌, ◌%◌, ◌^◌, ◌<◌, ◌≤◌, Bool, false, ◌≢◌, List, sym, ◌∙◌, arith, le-ltb, lt-ltb, eq-eqb, ne_eqb, le-leb}
use borrow.Author.Tests.{lt-leb}
use Rattle.laws.specs.Every.{fail, rest, last}
use Rattle.laws.specs.Tests.{either}
use Rattle.model.specs.Placing.{Request, fits_at}
use Rattle.table.specs.Layout.{size_at, first_byte_at, kind_at}
use Rattle.search.specs.Best.{better_at}
use Rattle.search.specs.Fit.{before_at, after_at}

module _ (ws : List ℕ) (k : ℕ) (r : Request) (spare over : ℕ) (low : spare + r.size < 2 ^ 64)
    (size : ℕ) (e : size ≡ size_at ws k) (word : size < 2 ^ 64) (wraps : over ≡ (size + (2 ^ 64 - r.size)) % 2 ^ 64) where
  abbrev least : ℕ
  least = spare + r.size

  -- fewer bytes than the request, or no fewer than the best so far
  pub out_of_range : spare ≤ over → false ≡ better_at ws k least r
  unfolding better_at
  out_of_range l =
      either _ size r.size
      (λ q. sym (fail _ 0 (lt-leb r.size (size_at ws k) (omega arith))))
      (λ q. sym (fail _ 1 (le-ltb (size_at ws k) least (omega arith))))

  -- a live chunk
  pub not_free : kind_at ws k ≢ 0 → false ≡ better_at ws k least r
  unfolding better_at
  not_free n = sym (fail _ 2 (ne_eqb (kind_at ws k) 0 n))

  -- any other is better if it fits
  pub if-fits : over < spare → kind_at ws k ≡ 0 → (t : Bool)
      → t ≡ fits_at r (first_byte_at ws k) (size_at ws k) (before_at ws k) (after_at ws k) → t ≡ better_at ws k least r
  unfolding better_at
  if-fits l z t q =
      q
      ∙ sym (rest _ _ (le-leb r.size (size_at ws k) (omega arith))
      ∙ rest _ _ (lt-ltb (size_at ws k) least (omega arith))
      ∙ rest _ _ (eq-eqb (kind_at ws k) 0 z)
      ∙ last _)
