-- The walk along "next" as a loop: what is left to do comes to what was to be done at the start. Assumes nothing.
use Rattle.std.specs.Prelude.{ℕ, zero, suc, ◌+◌, ◌-◌, ◌≤◌, ◌<◌, true, false, ◌≢◌, ◌≡◌, refl}
use native.Mathlib.Omega.{arith}
use Rattle.std.proofs.Common.{lt_of_not-le, sub-one, ⊎_elim, ◌∙◌}
use Rattle.std.proofs.Math.Bool.{Bool, not, cond}
use mathlib.Core.List.{List, [], ◌∷◌}
use Rattle.std.proofs.Math.Path.{sym, ap}
use borrow.Author.Tests.{eqb-true, eq-eqb, ne_eqb, leb-true, lt-leb}
use Rattle.std.proofs.Math.Dec.{eqb}
use Rattle.std.proofs.Math.ListN.{length}
use Rattle.laws.specs.Counting.{Within, distinct-fits}
use Rattle.laws.specs.Every.{every, pass, fail, two, second, cases}
use Rattle.laws.specs.Lists.{All, all_map}
use Rattle.laws.specs.Members.{has, distinct, has-none, has-cases}
use Rattle.laws.specs.Tests.{cond_cases, either}
use Rattle.model.specs.Block.{Chunk, total, allocated, live_size}
use Rattle.table.specs.Layout.{slot_count, Slot, block_size, allocated_word, first_slot, size_at, first_byte_at, kind_at, next_at}
use Rattle.words.specs.Words.{chunk_at, read, chunks_of}
use Rattle.words.specs.Ids.{ids_at}
use Rattle.words.specs.Checks.{links_ok, step_ok, walk_ok, walked, chunks_walked}

-- ---- one step of reading

read_step : (n : ℕ) (ws : List ℕ) (k : ℕ) → 1 ≤ n → 1 ≤ k → read n ws k ≡ chunk_at ws k ∷ read (n - 1) ws (next_at ws k)
unfolding read
read_step zero ws k p q = absurd (omega arith)
read_step (suc n) ws zero p q = absurd (omega arith)
read_step (suc n) ws (suc k) p q =
    ap (λ (j : ℕ). chunk_at ws (suc k) ∷ read j ws (next_at ws (suc k))) (sym (sub-one (suc n)))

read-end : (n : ℕ) (ws : List ℕ) (k : ℕ) → k ≡ 0 → read n ws k ≡ []
unfolding read
read-end zero ws k e = refl
read-end (suc n) ws k e = rw e

read_fits : (n : ℕ) (ws : List ℕ) (k : ℕ) → length (read n ws k) ≤ n
unfolding read
read_fits zero ws k = omega arith
read_fits (suc n) ws zero = omega arith
read_fits (suc n) ws (suc k) = omega (arith, read_fits n ws (next_at ws (suc k)))

no_bytes : (cs : List Chunk) → length cs ≡ 0 → total cs ≡ 0
no_bytes [] e = refl
no_bytes (c ∷ cs) e = absurd (omega arith)

-- A broken rule: no chunk counts.
pub broken : (ws : List ℕ) → walked ws ≡ false → chunks_walked ws ≡ 0
unfolding chunks_walked
broken ws e = rw e

-- ---- the loop

-- the test of every step of the walk
abbrev pub steps_ok : List ℕ → Bool
steps_ok ws = walk_ok ws 0 0 1 [] (first_slot ws) (chunks_of ws)

-- The walk is about to look at slot k. The slots vs were visited, the last one first, and at most n more chunks are
-- read; prev is the last slot, first the address where it ends, before its kind, sum the live chunks' bytes so far.
pub record Walking (ws : List ℕ) (prev k first before sum n : ℕ) (vs : List ℕ) : Type 0 where
  pub test : walk_ok ws prev first before (ids_at ws vs) k (read n ws k) ≡ steps_ok ws
  pub sizes : first + total (read n ws k) ≡ total (chunks_of ws)
  pub lives : sum + allocated (read n ws k) ≡ allocated (chunks_of ws)
  pub chunks : length vs + length (read n ws k) ≡ length (chunks_of ws)
  pub fuel : length vs + n ≡ slot_count ws
  pub part : sum ≤ first
  pub slots : Within (slot_count ws) vs
  pub once : distinct vs ≡ true
  pub rising : All (λ v. first_byte_at ws v < first) vs

-- At the start no slot was visited.
pub start : (ws : List ℕ) → Walking ws 0 (first_slot ws) 0 1 0 (slot_count ws) []
unfolding chunks_of distinct
start ws =
    record {
      test = refl;
      sizes = omega arith;
      lives = omega arith;
      chunks = omega arith;
      fuel = omega arith;
      part = omega arith;
      slots = tt;
      once = refl;
      rising = tt;
    }

walk_stop : (ws : List ℕ) (prev first before : ℕ) (seen : List ℕ) (n k : ℕ) → 1 ≤ k →
    (1 ≤ n → step_ok ws prev first before seen k ≡ false) → walk_ok ws prev first before seen k (read n ws k) ≡ false
unfolding walk_ok read
walk_stop ws prev first before seen zero k low e = ne_eqb k 0 (λ (z : k ≡ 0). omega arith)
walk_stop ws prev first before seen (suc n) zero low e = absurd (omega arith)
walk_stop ws prev first before seen (suc n) (suc k) low e = fail _ 0 (e (omega arith))

live_le : (kind size : ℕ) → cond (eqb kind 0) 0 size ≤ size
live_le kind size = cond_cases (λ (x : ℕ). x ≤ size) (eqb kind 0) (λ _. omega arith) (λ _. omega arith)

earlier : (ws : List ℕ) (k first : ℕ) (vs : List ℕ) → All (λ v. first_byte_at ws v < first) vs → has k vs ≡ true →
    first_byte_at ws k < first
earlier ws k first [] r h = absurd (has-none k h)
earlier ws k first (v ∷ vs) r h = ⊎_elim (λ e. rw (← e) r.0) (earlier ws k first vs r.1) (has-cases k v vs h)

module _ {ws : List ℕ} {prev k first before sum n : ℕ} {vs : List ℕ} (v : Walking ws prev k first before sum n vs) where
  -- A slot that begins where the last one ends was not visited.
  pub unvisited : first_byte_at ws k ≡ first → has k vs ≡ false
  unvisited e =
      ⊎_elim (λ h. absurd (omega (arith, earlier ws k first vs v.rising h))) (λ h. h) (cases (has k vs))

  now-once : first_byte_at ws k ≡ first → distinct (k ∷ vs) ≡ true
  unfolding distinct
  now-once e = two _ _ (ap not (unvisited e)) v.once

  -- So there is one chunk more to read.
  pub more-to-read : Slot ws k → first_byte_at ws k ≡ first → 1 ≤ n
  more-to-read s e =
      let l : length (k ∷ vs) ≤ slot_count ws = distinct-fits (k ∷ vs) (slot_count ws) (now-once e) (s, v.slots) in
      omega (arith, v.fuel)

  -- A step that fails: the walk does.
  pub stop : 1 ≤ k → step_ok ws prev first before (ids_at ws vs) k ≡ false → walked ws ≡ false
  unfolding walked
  stop low e = fail _ 0 (sym v.test ∙ walk_stop ws prev first before (ids_at ws vs) n k low (λ _. e))

  -- A number that is no slot's.
  pub past : slot_count ws < k → walked ws ≡ false
  unfolding step_ok
  past h = stop (omega arith) (fail _ 0 (lt-leb k (slot_count ws) h))

  -- A chunk that reaches beyond the block.
  pub too_long : 1 ≤ k → block_size ws < first + size_at ws k → walked ws ≡ false
  unfolding walked
  too_long low h =
      either _ n 1
      (λ (z : n < 1).
      fail _ 0 (sym v.test ∙ walk_stop ws prev first before (ids_at ws vs) n k low (λ l. absurd (omega arith))))
      (λ l.
      let r : total (read n ws k) ≡ size_at ws k + total (read (n - 1) ws (next_at ws k)) =
      ap total (read_step n ws k l low) in
      fail _ 1 (ne_eqb _ _ (λ (e : total (chunks_of ws) ≡ block_size ws). omega (arith, v.sizes))))

  -- A step that passes: the walk goes on at the next slot.
  pub go_on : Slot ws k → step_ok ws prev first before (ids_at ws vs) k ≡ true →
      Walking ws k (next_at ws k) (first + size_at ws k) (kind_at ws k) (sum + live_size (chunk_at ws k)) (n - 1) (k ∷ vs)
  unfolding walk_ok step_ok links_ok
  go_on s e =
      let begins : first_byte_at ws k ≡ first = eqb-true _ _ (pass _ 0 (pass _ 1 e)) in
      let size : 1 ≤ size_at ws k = leb-true _ _ (pass _ 4 e) in
      let left : 1 ≤ n = more-to-read s begins in
      let r : read n ws k ≡ chunk_at ws k ∷ read (n - 1) ws (next_at ws k) = read_step n ws k left s.0 in
      let l : live_size (chunk_at ws k) ≤ size_at ws k = live_le (kind_at ws k) (size_at ws k) in
      record {
        test = sym (second _ _ e) ∙ sym (ap (walk_ok ws prev first before (ids_at ws vs) k) r) ∙ v.test;
        sizes = omega (arith, v.sizes, ap total r);
        lives = omega (arith, v.lives, ap allocated r);
        chunks = omega (arith, v.chunks, ap length r);
        fuel = omega (arith, v.fuel);
        part = omega (arith, v.part);
        slots = (s, v.slots);
        once = now-once begins;
        rising = (omega arith, all_map (λ j (h : first_byte_at ws j < first). omega arith) vs v.rising);
      }

  -- The end of the chain: every step passed, and all was walked.
  pub done : k ≡ 0 →
      (steps_ok ws ≡ true) × (first ≡ total (chunks_of ws)) × (sum ≡ allocated (chunks_of ws))
      × (length vs ≡ length (chunks_of ws))
  unfolding walk_ok
  done e =
      let r : read n ws k ≡ [] = read-end n ws k e in (
        sym v.test ∙ ap (walk_ok ws prev first before (ids_at ws vs) k) r ∙ eq-eqb k 0 e,
        omega (arith, v.sizes, ap total r),
        omega (arith, v.lives, ap allocated r),
        omega (arith, v.chunks, ap length r),
      )

  -- The walk that stops where there is no slot answers by its last address and its sum.
  pub ends : (Slot ws k → ⊥) →
      cond (every (eqb k 0 ∷ eqb first (block_size ws) ∷ eqb sum (allocated_word ws) ∷ [])) (length vs) 0
      ≡ chunks_walked ws
  unfolding chunks_walked walked
  ends f =
      either _ k 1
      (λ l.
      let e : k ≡ 0 = omega arith in
      let d = done e in
      let t : eqb k 0 ≡ steps_ok ws = eq-eqb k 0 e ∙ sym d.0 in
      λ i. cond (every (t i ∷ eqb (d.1 i) (block_size ws) ∷ eqb (d.2 i) (allocated_word ws) ∷ [])) (d.3 i) 0)
      (λ l.
      let tests : List Bool = eqb k 0 ∷ eqb first (block_size ws) ∷ eqb sum (allocated_word ws) ∷ [] in
      ap (λ (t : Bool). cond t (length vs) 0) (fail tests 0 (ne_eqb k 0 (λ (e : k ≡ 0). omega arith)))
      ∙ sym (broken ws (past (lt_of_not-le (λ u. f (l, u))))))

-- ---- the answer

-- A walk that walked chunks broke no rule, and they are all.
pub some_walked : (ws : List ℕ) → chunks_walked ws ≢ 0 → (walked ws ≡ true) × (chunks_walked ws ≡ length (chunks_of ws))
unfolding chunks_walked
some_walked ws f =
    ⊎_elim (λ t. (t, ap (λ (b : Bool). cond b (length (chunks_of ws)) 0) t)) (λ t. absurd (f (broken ws t)))
    (cases (walked ws))

-- A walk that walked none broke a rule, where the block has a byte.
pub none_walked : (ws : List ℕ) → 1 ≤ block_size ws → chunks_walked ws ≡ 0 → walked ws ≡ false
unfolding chunks_walked walked
none_walked ws h e =
    ⊎_elim
    (λ t.
    let z : length (chunks_of ws) ≡ 0 = sym (ap (λ (b : Bool). cond b (length (chunks_of ws)) 0) t) ∙ e in
    let s : total (chunks_of ws) ≡ block_size ws = eqb-true _ _ (pass _ 1 t) in
    absurd (omega (arith, no_bytes (chunks_of ws) z)))
    (λ t. t)
    (cases (walked ws))

-- At most so many chunks are walked as there are slots.
pub walked-fits : (ws : List ℕ) → chunks_walked ws ≤ slot_count ws
unfolding chunks_walked chunks_of
walked-fits ws =
    let l : length (chunks_of ws) ≤ slot_count ws = read_fits (slot_count ws) ws (first_slot ws) in
    ⊎_elim (λ t. rw t l) (λ t. rw t (omega arith)) (cases (walked ws))
