-- What a new block is. Assumes nothing.
use Rattle.std.specs.Prelude.{ℕ, ◌≤◌, true, List, ◌≡◌, refl, length}
use Rattle.std.proofs.Common.{arith, sym, ap, ◌∙◌, ne_eqb}
use Rattle.laws.specs.Reply.{accepted, not_refused}
use Rattle.model.specs.Block.{Block, fresh}
use Rattle.model.proofs.Kept.{fresh-sound}
use Rattle.model.specs.Soundness.{Sound as SoundBlock}
use Rattle.table.specs.Layout.{slot_count, table_shape}
use Rattle.words.specs.Words.{encode, row_at, table, decode}
use Rattle.words.specs.Soundness.{Sound}
use Rattle.words.proofs.Rows.{encode-length, encode-slots, encode-head, encode-row}
use Rattle.words.proofs.Written.{decode-encode}
use Rattle.words.proofs.Checked.{decode-exactly}
use Rattle.opening.specs.Creation.{new_on}
use Rattle.opening.specs.Questions.{allocated_on, is_empty_on}
use Rattle.opening.specs.Looked.{table_exactly}
use Rattle.opening.proofs.Exactly.{new-cases, new-refused-1, new-refused-13, new-accepted}
use Rattle.opening.specs.NewBlock.{FreshTable}

fresh-table : (size slots : ℕ) → 1 ≤ slots → FreshTable size (encode (fresh size slots))
unfolding row_at
fresh-table size slots s =
    let b : Block = fresh size slots in
    let n : slot_count (encode b) ≡ slots = encode-slots b in
    record {
      head = encode-head b;
      chunk = encode-row b 1 (omega arith) s;
      others = λ k l h. encode-row b k (omega arith) (omega arith) ∙ rw (ne_eqb 1 k (λ e. omega arith));
    }

-- ---- an accepted creation

module _ (ws : List ℕ) (size : ℕ) (ok : (new_on ws size).0 ≡ accepted tt) where
  made : ((new_on ws size).1 ≡ encode (fresh size (slot_count ws))) × SoundBlock (fresh size (slot_count ws))
  made =
      new-cases ws size (λ r. r.0 ≡ accepted tt
      → (r.1 ≡ encode (fresh size (slot_count ws))) × SoundBlock (fresh size (slot_count ws)))
      (λ n e. absurd (not_refused (sym e))) (λ w s e. absurd (not_refused (sym e)))
      (λ w a b e.
      let t = table_shape ws ((table_exactly ws).1 w) in
      (refl, fresh-sound size (slot_count ws) a b t.0 t.1))
      ok

  -- The words after it are those of a fresh table, as many as before.
  pub new-table : FreshTable size (new_on ws size).1 × (length (new_on ws size).1 ≡ length ws)
  new-table =
      let t = table_shape ws ((table_exactly ws).1 ((new-accepted ws size).0 ok).0) in
      rw made.0 (fresh-table size (slot_count ws) t.0, encode-length (fresh size (slot_count ws)) ∙ sym t.2)

  -- They are read as the fresh block.
  pub new-read : decode (new_on ws size).1 ≡ table (fresh size (slot_count ws))
  new-read = ap decode made.0 ∙ decode-encode (fresh size (slot_count ws)) made.1

  -- They are sound.
  pub new-sound : Sound (new_on ws size).1
  new-sound = ((decode-exactly (new_on ws size).1).0 (fresh size (slot_count ws), new-read)).1

  -- Nothing is allocated in them.
  pub new-allocated : allocated_on (new_on ws size).1 ≡ accepted 0
  unfolding allocated_on
  new-allocated = rw new-read

  -- They are an empty block's.
  pub new-empty : is_empty_on (new_on ws size).1 ≡ accepted true
  unfolding is_empty_on
  new-empty = rw new-read

-- ---- any creation

-- It looks at no old content: on equally many words the answer is the same, and where it is accepted so are the words.
pub new_blind : (ws vs : List ℕ) (size : ℕ) → length ws ≡ length vs → ((new_on ws size).0 ≡ (new_on vs size).0)
    × ((new_on ws size).0 ≡ accepted tt → (new_on ws size).1 ≡ (new_on vs size).1)
new_blind ws vs size l =
    let answer : (new_on ws size).0 ≡ (new_on vs size).0 =
    new-cases ws size (λ r. r.0 ≡ (new_on vs size).0)
    (λ n. sym ((new-refused-1 vs size).1 (λ w. n (rw l w))))
    (λ w s. sym ((new-refused-13 vs size).1 (rw (← l) w, s)))
    (λ w a b. sym ((new-accepted vs size).1 (rw (← l) w, a, b))) in
    (answer, λ ok. (made ws size ok).0 ∙ (rw l) ∙ sym (made vs size (sym answer ∙ ok)).0)
