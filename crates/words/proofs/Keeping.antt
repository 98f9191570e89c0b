-- Words that keep a table's rules are those that a sound block is written as. Assumes nothing.
use Rattle.std.specs.Prelude.{ℕ, ◌+◌, ◌≤◌, true, false, cond, List, [], ◌∷◌, map, ◌≡◌, refl, eqb}
use Rattle.std.proofs.Common.{arith, ⊎_elim, sym, ap, subst, ◌∙◌}
use Rattle.laws.specs.Counting.{has-element}
use Rattle.laws.specs.Every.{cases, clash}
use Rattle.laws.specs.Lists.{All, Pairwise, all_map, all_zip}
use Rattle.laws.specs.Mapped.{all-mapped, pairs-mapped, linked-mapped}
use Rattle.laws.specs.Members.{has, same, same-eq, same_refl}
use Rattle.model.specs.Block.{Chunk, Block, total, allocated}
use Rattle.model.specs.Soundness.{Sound as SoundBlock}
use Rattle.table.specs.Layout.{slot_count, is_table, table_shape, block_size, next_id, first_slot, size_at, kind_at, next_at, row, empty_row}
use Rattle.words.specs.Words.{row_of, row_at, chunk_at, chunks_of, block_of, slots_of, sound}
use Rattle.words.specs.Soundness.{Used, Walk, Follow, live_bytes, Sound}
use Rattle.words.proofs.Rows.{written}
use Rattle.words.specs.Linked.{Linked}
use Rattle.words.proofs.Linked.{linked_slot, linked_row_at, row_at-none, linked_read}
use Rattle.words.proofs.Laid.{sound-laid, chunks_fit}
use Rattle.words.proofs.Written.{sound-words}

-- the chunks in the slots of a walk
abbrev chunks_at : List ℕ → List ℕ → List Chunk
chunks_at ws ks = map (chunk_at ws) ks

slots_at : (ws ks : List ℕ) → slots_of (chunks_at ws ks) ≡ ks
slots_at ws [] = refl
slots_at ws (k ∷ ks) = ap (λ (l : List ℕ). k ∷ l) (slots_at ws ks)

live_at_lem : (ws ks : List ℕ) → allocated (chunks_at ws ks) ≡ live_bytes ws ks
live_at_lem ws [] = refl
live_at_lem ws (k ∷ ks) = ap (λ (n : ℕ). cond (eqb (kind_at ws k) 0) 0 (size_at ws k) + n) (live_at_lem ws ks)

-- a walk that follows on from an address is linked as its chunks, and they come to the address where it ends
walk_linked : (ws : List ℕ) (prev k first : ℕ) (ks : List ℕ) (end : ℕ) → Walk ws prev k ks → Follow ws first ks end
    → Linked ws prev k first (chunks_at ws ks)
walk_linked ws prev k first [] end w f = w
walk_linked ws prev k first (v ∷ ks) end w f =
    let p = f.0 in
    let q = w.1 in
    let here : row ws v ≡ row_of prev first (next_at ws v) (chunk_at ws v) = cc in
    subst (λ (k : ℕ). Linked ws prev k first (chunks_at ws (v ∷ ks))) (sym w.0)
    (refl, here, walk_linked ws v (next_at ws v) (first + size_at ws v) ks end w.2 f.1)

walk_total : (ws : List ℕ) (first : ℕ) (ks : List ℕ) (end : ℕ) → Follow ws first ks end
    → first + total (chunks_at ws ks) ≡ end
walk_total ws first [] end f = omega (arith, f)
walk_total ws first (v ∷ ks) end f = let r = walk_total ws (first + size_at ws v) ks end f.1 in omega arith

pairs_zip : {A : Type 0} {P : A → Type 0} {R S : A → A → Type 0} (f : (x y : A) → P x → P y → R x y → S x y)
    (l : List A) → All P l → Pairwise R l → Pairwise S l
pairs_zip f [] a h = tt
pairs_zip f (x ∷ l) a h = (all_zip (λ y p r. f x y a.0 p r) l a.1 h.0, pairs_zip f l a.1 h.1)

module _ (ws : List ℕ) (t : is_table ws ≡ true) (h : Sound ws) where
  abbrev walkedBlock : Block
  walkedBlock = record { size = block_size ws; next = next_id ws; slots = slot_count ws; chunks = chunks_at ws h.walk }

  links : Linked ws 0 (first_slot ws) 0 (chunks_at ws h.walk)
  links = walk_linked ws 0 (first_slot ws) 0 h.walk (block_size ws) h.links h.follow

  each : (P : Chunk → Type 0) → ((k : ℕ) → Used ws k → P (chunk_at ws k)) → All P (chunks_at ws h.walk)
  each P f = (all-mapped (chunk_at ws) P h.walk).1 (all_map f h.walk h.used)

  block-sound : SoundBlock walkedBlock
  block-sound =
      record {
        slots = ((table_shape ws t).0, (table_shape ws t).1);
        size = h.size;
        next = h.next;
        distinct = (pairs-mapped (chunk_at ws) _ h.walk).1
            (pairs_zip (λ j k u v n e. n (h.distinct j k u v e)) h.walk h.used h.once);
        ids = each _ h.ids;
        sizes = each _ h.sizes;
        kinds = each _ h.kinds;
        labels = each _ h.labels;
        places = each _ (λ k u. u.0);
        apart = (pairs-mapped (chunk_at ws) _ h.walk).1 h.once;
        whole = let e = walk_total ws 0 h.walk (block_size ws) h.follow in omega arith;
        neighbours = linked-mapped (chunk_at ws) _ h.walk h.neighbours;
      }

  chunks-read : chunks_of ws ≡ chunks_at ws h.walk
  unfolding chunks_of
  chunks-read =
      linked_read ws (slot_count ws) 0 (first_slot ws) 0 (chunks_at ws h.walk) (each _ (λ k u. u.0.0))
      (chunks_fit walkedBlock (sound-laid walkedBlock block-sound)) links

  block_read : block_of ws ≡ walkedBlock
  unfolding block_of
  block_read = λ i. record { size = block_size ws; next = next_id ws; slots = slot_count ws; chunks = chunks-read i }

  empty : (k : ℕ) → 1 ≤ k → k ≤ slot_count ws → has k h.walk ≡ false → row ws k ≡ empty_row
  empty k p q f =
      ⊎_elim (λ e. same-eq _ _ e)
      (λ e.
      let u : Used ws k = ((p, q), λ r. clash (ap (λ (l : List ℕ). same l empty_row) r ∙ same_refl empty_row) e) in
      absurd (clash ((has-element k h.walk).1 (h.visited k u)) f))
      (cases (same (row ws k) empty_row))

  rows : (k : ℕ) → 1 ≤ k → k ≤ slot_count ws → row ws k ≡ row_at 0 0 (chunks_at ws h.walk) k
  rows k p q =
      let cs = chunks_at ws h.walk in
      ⊎_elim (λ e. linked_row_at ws 0 (first_slot ws) 0 cs links k e)
      (λ e. empty k p q (ap (has k) (sym (slots_at ws h.walk)) ∙ e) ∙ sym (row_at-none 0 0 cs k e))
      (cases (has k (slots_of cs)))

  -- Words of a table that keep its rules are sound.
  pub record-sound : sound ws ≡ true
  record-sound =
      let cs = chunks_at ws h.walk in
      sound-words ws walkedBlock block_read block-sound
      (written ws walkedBlock (table_shape ws t).2 refl (h.allocated ∙ sym (live_at_lem ws h.walk)) refl
      (linked_slot ws 0 (first_slot ws) 0 cs links) rows)
