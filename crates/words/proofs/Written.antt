-- What is written is read back, and what is read is written so. Assumes nothing.
use Rattle.std.specs.Prelude.{ℕ, ◌+◌, ◌*◌, ◌≤◌, Bool, true, false, List, ◌≢◌, ◌↔◌, ◌≡◌, refl, length}
use Rattle.std.proofs.Common.{arith, ⊎_elim, sym, ap, ◌∙◌, eq-eqb, le-leb}
use Rattle.laws.specs.Every.{pass, none, more, two, cases, clash}
use Rattle.laws.specs.Members.{same-eq, same_refl}
use Rattle.model.specs.Block.{Block}
use Rattle.model.specs.Soundness.{Sound}
use Rattle.table.specs.Layout.{word_count, slot_count, is_table, table_shape, allocated_word, first_slot, row}
use Rattle.words.specs.Words.{row_at, encode, chunks_of, block_of, rules, not_a_table, unsound, table, sound, read_as, decode}
use Rattle.words.proofs.Rows.{encode-length, encode-head, encode-row}
use Rattle.words.proofs.Laid.{sound-laid, linked, block_back}
use Rattle.words.proofs.Rules.{rules-sound}
use Rattle.words.specs.Written.{Known}

-- ---- a block that is written

-- Words are sound if a sound block is read from them and is written as them.
pub sound-words : (ws : List ℕ) (b : Block) → block_of ws ≡ b → Sound b → encode b ≡ ws → sound ws ≡ true
unfolding sound
sound-words ws b e h w =
    two _ _ (ap rules e ∙ (rules-sound b).1 h) (rw (e, w) (same_refl ws))

table_length : (ws : List ℕ) (s : ℕ) → 1 ≤ s → s ≤ 512 → length ws ≡ word_count s → is_table ws ≡ true
unfolding is_table
table_length ws s p q e =
    more _ _ (le-leb 1 (slot_count ws) (omega arith))
    (more _ _ (le-leb (slot_count ws) 512 (omega arith))
    (more _ _ (eq-eqb (length ws) (word_count (slot_count ws)) (omega arith))
    none))

-- Sound words are known so.
pub known : (ws : List ℕ) → sound ws ≡ true → Known ws
unfolding sound block_of
known ws e =
    let w : encode (block_of ws) ≡ ws = same-eq _ _ (pass _ 1 e) in
    let h : Sound (block_of ws) = (rules-sound (block_of ws)).0 (pass _ 0 e) in
    let r : (k : ℕ) → 1 ≤ k → k ≤ slot_count ws → row ws k ≡ row_at 0 0 (chunks_of ws) k =
    (λ k p q. ap (λ (l : List ℕ). row l k) (sym w) ∙ encode-row (block_of ws) k p q) in
    record {
      words = w;
      block = h;
      allocated = ap allocated_word (sym w) ∙ (encode-head (block_of ws)).1;
      rows = r;
      links = rw (ap first_slot (sym w) ∙ (encode-head (block_of ws)).3) (linked ws (block_of ws) (sound-laid (block_of ws) h) r);
    }

-- They are a table's.
pub sound_is_table : (ws : List ℕ) → sound ws ≡ true → is_table ws ≡ true
sound_is_table ws e =
    let k = known ws e in
    table_length ws (block_of ws).slots k.block.slots.0 k.block.slots.1
    (ap length (sym k.words) ∙ encode-length (block_of ws))

-- ---- what words are read as

-- Words of another count are no table, and words that are not sound hold no block.
pub decode-none : (ws : List ℕ) → is_table ws ≡ false → decode ws ≡ not_a_table
unfolding decode
decode-none ws t = rw t

pub decode-unsound : (ws : List ℕ) → is_table ws ≡ true → sound ws ≡ false → decode ws ≡ unsound
unfolding decode
decode-unsound ws t s = rw (t, s)

-- Sound words of a table are read as the block that they hold.
pub decode-block : (ws : List ℕ) → is_table ws ≡ true → sound ws ≡ true → decode ws ≡ table (block_of ws)
unfolding decode
decode-block ws t s = rw (t, s)

-- A sound block is read back from what it is written as.
pub decode-encode : (b : Block) → Sound b → decode (encode b) ≡ table b
decode-encode b h =
    let e = block_back b (sound-laid b h) in
    decode-block (encode b) (table_length (encode b) b.slots h.slots.0 h.slots.1 (encode-length b))
    (sound-words (encode b) b e h refl)
    ∙ ap table e

read_table : (t s : Bool) (b b' : Block) → read_as t s b ≡ table b' → (t ≡ true) × (s ≡ true) × (b ≡ b')
read_table false s b b' e = (cc, cc, cc)
read_table true false b b' e = (cc, cc, cc)
read_table true true b b' e = (refl, refl, cc)

-- Words that are read as a block are a table's, sound, and it is the block that they hold.
pub decode-table : (ws : List ℕ) (b : Block) → decode ws ≡ table b
    → (is_table ws ≡ true) × (sound ws ≡ true) × (block_of ws ≡ b)
unfolding decode
decode-table ws b e = read_table (is_table ws) (sound ws) (block_of ws) b e

-- The block that words are read as is written as those words.
pub encode-decode : (ws : List ℕ) (b : Block) → decode ws ≡ table b → encode b ≡ ws
encode-decode ws b e =
    let d = decode-table ws b e in
    ap encode (sym d.2) ∙ (known ws d.1).words

-- That block is sound.
pub decode-sound : (ws : List ℕ) (b : Block) → decode ws ≡ table b → Sound b
decode-sound ws b e =
    let d = decode-table ws b e in
    rw d.2 at (known ws d.1).block

read-not : (t s : Bool) (b : Block) → read_as t s b ≡ not_a_table → t ≡ false
read-not false s b e = refl
read-not true false b e = cc
read-not true true b e = cc

-- Words are not a table exactly where their number is not 4 + 7s, s from 1 to 512.
pub not_a_table_lem : (ws : List ℕ) → decode ws ≡ not_a_table ↔ ((s : ℕ) → 1 ≤ s → s ≤ 512 → length ws ≢ 4 + 7 * s)
unfolding decode
not_a_table_lem ws = (
  λ e s p q n. clash (table_length ws s p q n) (read-not (is_table ws) (sound ws) (block_of ws) e),
  λ f.
      ⊎_elim (λ t. let h = table_shape ws t in absurd (f (slot_count ws) h.0 h.1 h.2)) (λ t. rw t)
      (cases (is_table ws)),
)
