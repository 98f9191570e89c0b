-- What it says that a store is long enough. Assumes nothing.
use Rattle.std.specs.Prelude.{ℕ, ◌≤◌, true, ◌≡◌, length}
use mathlib.Core.List.{List, [], ◌∷◌}
use borrow.Author.Tests.{le-leb, leb-true}
use Rattle.std.proofs.Math.Dec.{leb}
use Rattle.laws.specs.Every.{pass, two}
use Rattle.table.specs.Layout.{most_words}
use Rattle.bench_lines.specs.Feeding.{fits}
use Rattle.bench_lines.specs.declared.Bench.{Bench}

-- What the test says.
module _ (s : Bench) (store : List ℕ) where
  pub fitting : fits s store ≡ true → (most_words ≤ length store) × (s.lent ≤ length store)
  unfolding fits
  fitting e =
      let tests = leb most_words (length store) ∷ leb s.lent (length store) ∷ [] in
      (leb-true most_words (length store) (pass tests 0 e), leb-true s.lent (length store) (pass tests 1 e))

  pub fit : most_words ≤ length store → s.lent ≤ length store → fits s store ≡ true
  unfolding fits
  fit m h = two _ _ (le-leb most_words (length store) m) (le-leb s.lent (length store) h)
