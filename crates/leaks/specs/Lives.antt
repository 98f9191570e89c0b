-- The live chunks of the block that words hold, by rising address, and where they stand in the words. Assumes nothing.
use Rattle.std.specs.Prelude.{ℕ, ◌+◌, ◌≤◌, ◌<◌, true, cond, ◌≢◌, ◌≡◌, refl, leb}
use Rattle.std.proofs.Common.{arith, ⊎_elim, ap, subst, ◌∙◌, ne_eqb}
use mathlib.Core.List.Memᴰ
use mathlib.Core.List.{List, [], ◌∷◌, Memᴰ}
use Rattle.std.proofs.Math.Path.{sym}
use Rattle.std.proofs.lemmas.Bool.{eqb-false}
use Rattle.laws.specs.Every.{cases}
use Rattle.laws.specs.Lists.{All, Pairwise}
use Rattle.laws.specs.Tests.{cond_cases}
use Rattle.model.specs.Block.{Chunk, Spot, total, is_free, allocated, spots}
use Rattle.model.proofs.Choose.{cut-of_spot, spot-of_cut}
use Rattle.table.specs.Layout.{Slot, allocated_word, id_at, size_at, first_byte_at, kind_at, label_at}
use Rattle.words.specs.Words.{block_of, sound}
use Rattle.words.specs.Soundness.{Sound}
use Rattle.words.proofs.Written.{known}
use Rattle.words.proofs.Checked.{sound-exactly}
use Rattle.words.specs.Spots.{InSlot}
use Rattle.words.proofs.Spots.{sound-spot, in_table, in_words, in_all}
use Rattle.opening.specs.Looked.{TableWords, table_exactly}
use Rattle.search.specs.Held.{held_kind}
use Rattle.leaks.specs.Leaks.{Live, live_of}

-- ---- the definitions

-- the live chunks among those, each as it is handed out
abbrev pub lives_of : List Spot → List Live
lives_of [] = []
lives_of (z ∷ zs) = cond (is_free z.chunk) (lives_of zs) (live_of z ∷ lives_of zs)

-- the live chunks of the block that the words hold, by rising address
unfoldable pub lives : List ℕ → List Live
lives ws = lives_of (spots [] (block_of ws).chunks)

-- those that begin at the address or later
abbrev pub from : ℕ → List Live → List Live
from address [] = []
from address (l ∷ ls) = cond (leb address l.first_byte) (l ∷ from address ls) (from address ls)

-- the sum of their sizes
abbrev pub bytes : List Live → ℕ
bytes [] = 0
bytes (l ∷ ls) = l.size + bytes ls

-- the chunk in slot k, as it is handed out
abbrev pub live_at : List ℕ → ℕ → Live
live_at ws k = record {
  id = id_at ws k;
  first_byte = first_byte_at ws k;
  size = size_at ws k;
  kind = kind_at ws k;
  label = label_at ws k;
}

-- slot k is a live chunk's
abbrev pub LiveSlot : List ℕ → ℕ → Type 0
LiveSlot ws k = Slot ws k × (kind_at ws k ≢ 0)

-- one ends where the other begins, or before
abbrev pub Before : Live → Live → Type 0
Before x y = x.first_byte + x.size ≤ y.first_byte

-- ---- the live ones among the chunks of a list

-- what holds of each live chunk holds of all that are handed out
of_lives : (P : Live → Type 0) (zs : List Spot) → ((z : Spot) → Memᴰ z zs → z.chunk.kind ≢ 0 → P (live_of z))
    → All P (lives_of zs)
of_lives P [] f = tt
of_lives P (z ∷ zs) f =
    let rest = of_lives P zs (λ y m. f y (Memᴰ.tail m)) in
    cond_cases (All P) (is_free z.chunk) (λ e. rest) (λ e. (f z (Memᴰ.head refl) (eqb-false _ _ e), rest))

-- each live chunk is handed out
in_lives : (zs : List Spot) (z : Spot) → Memᴰ z zs → z.chunk.kind ≢ 0 → Memᴰ (live_of z) (lives_of zs)
in_lives [] z m n = absurd (Memᴰ.not-nil m)
in_lives (y ∷ zs) z (Memᴰ.head e) n =
    let k : y.chunk.kind ≢ 0 = subst (λ (x : Spot). x.chunk.kind ≢ 0) e n in
    rw (ne_eqb y.chunk.kind 0 k) (Memᴰ.head (ap live_of e))
in_lives (y ∷ zs) z (Memᴰ.tail m) n =
    let rest = in_lives zs z m n in
    cond_cases (Memᴰ (live_of z)) (is_free y.chunk) (λ e. rest) (λ e. Memᴰ.tail rest)

lives-above : (left cs : List Chunk) (n : ℕ) → n ≤ total left → All (λ l. n ≤ l.first_byte) (lives_of (spots left cs))
lives-above left [] n a = tt
lives-above left (c ∷ cs) n a =
    let rest = lives-above (c ∷ left) cs n (omega arith) in
    cond_cases (All (λ l. n ≤ l.first_byte)) (is_free c) (λ e. rest) (λ e. (a, rest))

in_order : (left cs : List Chunk) → Pairwise Before (lives_of (spots left cs))
in_order left [] = tt
in_order left (c ∷ cs) =
    let rest = in_order (c ∷ left) cs in
    cond_cases (Pairwise Before) (is_free c) (λ e. rest)
    (λ e. (lives-above (c ∷ left) cs (total left + c.size) (omega arith), rest))

sum_lives : (left cs : List Chunk) → bytes (lives_of (spots left cs)) ≡ allocated cs
sum_lives left [] = refl
sum_lives left (c ∷ cs) =
    let rest = sum_lives (c ∷ left) cs in
    ⊎_elim (λ e. rw e (omega arith)) (λ e. rw e (ap (λ (n : ℕ). c.size + n) rest)) (cases (is_free c))

-- ---- on the words of a sound table

-- A chunk as it is handed out has the words of its slot.
pub spot-words : (ws : List ℕ) (k : ℕ) (z : Spot) → InSlot ws k z → live_at ws k ≡ live_of z
spot-words ws k z h = let w = in_words h in rw (w.id, w.begins, w.size, w.kind, w.label)

module _ (ws : List ℕ) (t : TableWords ws) (s : Sound ws) where
  is-sound : sound ws ≡ true
  is-sound = (sound-exactly ws ((table_exactly ws).1 t)).1 s

  -- Each one handed out is what some slot with a kind other than 0 holds.
  pub lives-slots : All (λ l. (k : ℕ) × LiveSlot ws k × (l ≡ live_at ws k)) (lives ws)
  unfolding lives
  lives-slots =
      of_lives (λ l. (k : ℕ) × LiveSlot ws k × (l ≡ live_at ws k)) (spots [] (block_of ws).chunks)
      (λ z m n.
      let h = sound-spot ws is-sound z (cut-of_spot (block_of ws).chunks z m) in
      let k = z.chunk.slot in
      (k, (in_table ws k z h, λ e. n (sym (in_words h).kind ∙ e)), sym (spot-words ws k z h)))

  -- Every slot with a kind other than 0 is handed out.
  pub slots-lives : (k : ℕ) → LiveSlot ws k → Memᴰ (live_at ws k) (lives ws)
  unfolding lives
  slots-lives k l =
      let h = held_kind ws is-sound k l.0 l.1 in
      rw (spot-words ws k h.0 h.1)
      (in_lives (spots [] (block_of ws).chunks) h.0 (spot-of_cut (block_of ws).chunks h.0 h.1.cut)
      (λ e. l.1 ((in_words h.1).kind ∙ e)))

  -- They come by rising address, each ending where the next begins or before.
  pub lives-rise : Pairwise Before (lives ws)
  unfolding lives
  lives-rise = in_order [] (block_of ws).chunks

  -- Each has at least one byte, so that none comes twice.
  pub lives-sizes : All (λ l. 1 ≤ l.size) (lives ws)
  unfolding lives
  lives-sizes =
      of_lives (λ l. 1 ≤ l.size) (spots [] (block_of ws).chunks)
      (λ z m n.
      let h = sound-spot ws is-sound z (cut-of_spot (block_of ws).chunks z m) in
      in_all h (λ c. 1 ≤ c.size) (known ws is-sound).block.sizes)

  -- Each has an id of at least 1.
  pub lives-ids : All (λ l. 1 ≤ l.id) (lives ws)
  unfolding lives
  lives-ids =
      of_lives (λ l. 1 ≤ l.id) (spots [] (block_of ws).chunks)
      (λ z m n.
      let h = sound-spot ws is-sound z (cut-of_spot (block_of ws).chunks z m) in
      (in_all h (λ c. (1 ≤ c.id) × (c.id < (block_of ws).next)) (known ws is-sound).block.ids).0)

  -- Their sizes sum to the bytes allocated.
  pub lives-sum : bytes (lives ws) ≡ allocated_word ws
  unfolding lives block_of
  lives-sum = sum_lives [] (block_of ws).chunks ∙ sym (known ws is-sound).allocated
