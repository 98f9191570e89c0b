-- What the parts of the walk answer. Assumes nothing.
use Rattle.std.specs.Prelude.{ℕ, cond, List, [], ◌∷◌, ◌++◌, ◌==◌, length, Option, Some, None, Bool, true, false, ◌≡◌, refl}
use Rattle.laws.specs.Every.{every}
use Rattle.walking.specs.declared.ids.Buckets.{Buckets}
use Rattle.walking.specs.declared.place.Place.{Place}
use Rattle.table.specs.Layout.{block_size, allocated_word, size_at, kind_at}
use Rattle.words.specs.Words.{chunks_of}
use Rattle.words.specs.Checks.{kind_ok, walked, chunks_walked}

-- the buckets as one list
abbrev pub heads_and_links : Buckets → List ℕ
heads_and_links b = b.heads ++ b.links

-- where a walk stands before its first chunk, in slot k
abbrev pub at_start : ℕ → Place
at_start k = record { prev = 0; k = k; first = 0; before = 1; sum = 0; n = 0 }

-- the bytes that a chunk adds to those allocated, where its kind and label keep the rules
unfoldable pub live_of : List ℕ → ℕ → ℕ → Option ℕ
live_of ws before k = cond (kind_ok ws before k) (Some (cond (kind_at ws k == 0) 0 (size_at ws k))) None

-- the chunks met by a walk that ended here, where no rule is broken
unfoldable pub walk_end : List ℕ → Place → Option ℕ
walk_end ws p = cond (every ((p.k == 0) ∷ (p.first == block_size ws) ∷ (p.sum == allocated_word ws) ∷ [])) (Some p.n) None

-- those of the whole walk
unfoldable pub whole_walk : List ℕ → Option ℕ
whole_walk ws = cond (walked ws) (Some (length (chunks_of ws))) None

-- how many chunks an answer says, 0 where it has none
abbrev pub chunks_met : Option ℕ → ℕ
chunks_met None = 0
chunks_met (Some n) = n

-- It is the number of chunks walked.
pub counted : (ws : List ℕ) → chunks_met (whole_walk ws) ≡ chunks_walked ws
unfolding whole_walk chunks_walked
counted ws = go (walked ws)
  where
    go : (b : Bool) → chunks_met (cond b (Some (length (chunks_of ws))) None) ≡ cond b (length (chunks_of ws)) 0
    go true = refl
    go false = refl
