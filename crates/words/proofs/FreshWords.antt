-- Words that are all 0 but for those of a fresh table. Assumes nothing.
use Prim.Native.Nat.{ℕ, zero, suc, ◌*◌, ◌≤◌}
use native.Mathlib.Omega.{arith}
use mathlib.Core.List.{[], ◌∷◌}
use mathlib.Core.Path.{◌≡◌, refl}
use borrow.Author.Tests.{ne_eqb}
use lib.ListN.{set, replicate}
use Rattle.model.specs.Block.{Chunk, fresh}
use Rattle.table.specs.Layout.{word_count, at}
use Rattle.words.specs.Words.{encode, rows, row_at}

-- the one chunk of a fresh table
whole : ℕ → Chunk
whole size = record { slot = 1; id = 1; size = size; kind = 0; label = 0 }

-- The slots after the first are empty.
rest_rows : (size m k : ℕ) → 2 ≤ k → rows (whole size ∷ []) m k ≡ replicate (7 * m) 0
unfolding rows row_at whole
rest_rows size zero k l = refl
rest_rows size (suc m) k l =
    let n : 7 * suc m ≡ suc (suc (suc (suc (suc (suc (suc (7 * m))))))) = omega arith in
    rw (n, ne_eqb 1 k (λ (e : 1 ≡ k). omega arith), rest_rows size m (suc k) (omega arith))

-- Five words written over zeros are a fresh table's.
pub fresh-words : (size s n : ℕ) → 1 ≤ s → n ≡ word_count s
    → set (set (set (set (set (replicate n 0) 0 size) 2 2) 3 1) (at 1 0) 1) (at 1 1) size ≡ encode (fresh size s)
unfolding encode rows row_at whole
fresh-words size zero n l e = absurd (omega arith)
fresh-words size (suc m) n l e =
    let f : n ≡ suc (suc (suc (suc (suc (suc (suc (suc (suc (suc (suc (7 * m))))))))))) = omega arith in
    rw (f, rest_rows size m 2 (omega arith))
