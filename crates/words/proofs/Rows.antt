-- The words that a block is written as, head and slots. Assumes nothing.
use Rattle.std.specs.Prelude.{ℕ, zero, suc, ◌+◌, ◌-◌, ◌*◌, ◌/◌, ◌%◌, ◌≤◌, ◌<◌, Bool, true, false, cond, List, [], ◌∷◌, ◌++◌, ◌≡◌, refl, eqb, length, get_or}
use Rattle.std.proofs.Common.{arith, sym, ap, ◌∙◌, length-append, ext_get_or, get_or-append-add}
use Rattle.std.proofs.Math.ListN.{get_or-append}
use Rattle.model.specs.Block.{Chunk, Block, allocated}
use Rattle.table.specs.Layout.{word_count, slot_count, block_size, allocated_word, next_id, first_slot, at, word, row, row_word}
use Rattle.words.specs.Words.{slot_of, row_of, row_at, rows, encode}

-- ---- the words of a written block

row_at-length : (prev first : ℕ) (cs : List Chunk) (k : ℕ) → length (row_at prev first cs k) ≡ 7
unfolding row_at
row_at-length prev first [] k = refl
row_at-length prev first (c ∷ cs) k = go (eqb c.slot k) (row_at-length c.slot (first + c.size) cs k)
  where
    go : (t : Bool) → length (row_at c.slot (first + c.size) cs k) ≡ 7
        → length (cond t (row_of prev first (slot_of cs) c) (row_at c.slot (first + c.size) cs k)) ≡ 7
    go true h = refl
    go false h = h

rows-length : (cs : List Chunk) (n k : ℕ) → length (rows cs n k) ≡ 7 * n
unfolding rows
rows-length cs zero k = refl
rows-length cs (suc n) k =
    let h = rows-length cs n (suc k) in
    let e = row_at-length 0 0 cs k in
    simp length-append (omega arith)

rows-word : (cs : List Chunk) (n k j f : ℕ) → j < n → f < 7
    → get_or (rows cs n k) (7 * j + f) 0 ≡ get_or (row_at 0 0 cs (k + j)) f 0
unfolding rows
rows-word cs zero k j f h l = absurd (omega arith)
rows-word cs (suc n) k zero f h l =
    let e = row_at-length 0 0 cs k in
    let i : 7 * 0 + f ≡ f = omega arith in
    let q : k ≡ k + 0 = omega arith in
    ap (λ (i : ℕ). get_or (row_at 0 0 cs k ++ rows cs n (suc k)) i 0) i
    ∙ get_or-append (row_at 0 0 cs k) (rows cs n (suc k)) 0 f (omega arith)
    ∙ ap (λ (i : ℕ). get_or (row_at 0 0 cs i) f 0) q
rows-word cs (suc n) k (suc j) f h l =
    let e = row_at-length 0 0 cs k in
    let i : 7 * suc j + f ≡ length (row_at 0 0 cs k) + (7 * j + f) = omega arith in
    let q : suc k + j ≡ k + suc j = omega arith in
    ap (λ (i : ℕ). get_or (row_at 0 0 cs k ++ rows cs n (suc k)) i 0) i
    ∙ get_or-append-add (row_at 0 0 cs k) (rows cs n (suc k)) (7 * j + f) 0
    ∙ rows-word cs n (suc k) j f (omega arith) l
    ∙ ap (λ (i : ℕ). get_or (row_at 0 0 cs i) f 0) q

-- A block is written as 4 + 7s words, s its slots.
pub encode-length : (b : Block) → length (encode b) ≡ word_count b.slots
unfolding encode
encode-length b = let h = rows-length b.chunks b.slots 1 in omega arith

-- That many slots are found in it.
pub encode-slots : (b : Block) → slot_count (encode b) ≡ b.slots
encode-slots b = let h = encode-length b in omega arith

-- The head of a written block.
pub encode-head : (b : Block) → (block_size (encode b) ≡ b.size) × (allocated_word (encode b) ≡ allocated b.chunks)
    × (next_id (encode b) ≡ b.next) × (first_slot (encode b) ≡ slot_of b.chunks)
unfolding encode
encode-head b = (refl, refl, refl, refl)

encode-word : (b : Block) (k f : ℕ) → 1 ≤ k → k ≤ b.slots → f < 7
    → word (encode b) k f ≡ get_or (row_at 0 0 b.chunks k) f 0
unfolding encode
encode-word b k f p q l =
    let i : at k f ≡ suc (suc (suc (suc (7 * (k - 1) + f)))) = omega arith in
    let e : 1 + (k - 1) ≡ k = omega arith in
    ap (λ (i : ℕ). get_or (encode b) i 0) i
    ∙ rows-word b.chunks b.slots 1 (k - 1) f (omega arith) l
    ∙ ap (λ (i : ℕ). get_or (row_at 0 0 b.chunks i) f 0) e

-- ---- words and rows

-- The words of a slot of a written block.
pub encode-row : (b : Block) (k : ℕ) → 1 ≤ k → k ≤ b.slots → row (encode b) k ≡ row_at 0 0 b.chunks k
encode-row b k p q =
    ext_get_or 0 (row (encode b) k) (row_at 0 0 b.chunks k) (sym (row_at-length 0 0 b.chunks k))
    (λ f l. row_word (encode b) k f l ∙ encode-word b k f p q l)

-- Tables of one length are equal where their heads and each of their slots are.
same-words : (s : ℕ) (ws ws' : List ℕ) → length ws ≡ word_count s → length ws' ≡ word_count s
    → block_size ws ≡ block_size ws' → allocated_word ws ≡ allocated_word ws' → next_id ws ≡ next_id ws'
    → first_slot ws ≡ first_slot ws' → ((k : ℕ) → 1 ≤ k → k ≤ s → row ws k ≡ row ws' k) → ws ≡ ws'
same-words s ws ws' n n' e0 e1 e2 e3 r = ext_get_or 0 ws ws' (n ∙ sym n') at_each
  where
    at_each : (i : ℕ) → i < length ws → get_or ws i 0 ≡ get_or ws' i 0
    at_each zero l = e0
    at_each (suc zero) l = e1
    at_each (suc (suc zero)) l = e2
    at_each (suc (suc (suc zero))) l = e3
    at_each (suc (suc (suc (suc j)))) l =
        let k = j / 7 + 1 in
        let f = j % 7 in
        let i : at k f ≡ suc (suc (suc (suc j))) = omega arith in
        let q : f < 7 = omega arith in
        let h : row ws k ≡ row ws' k = r k (omega arith) (omega arith) in
        let w : word ws k f ≡ word ws' k f =
        sym (row_word ws k f q) ∙ ap (λ (l : List ℕ). get_or l f 0) h ∙ row_word ws' k f q in
        sym (ap (λ (i : ℕ). get_or ws i 0) i) ∙ w ∙ ap (λ (i : ℕ). get_or ws' i 0) i

-- Words whose head and slots are a block's are the words that the block is written as.
pub written : (ws : List ℕ) (b : Block) → length ws ≡ word_count b.slots → block_size ws ≡ b.size
    → allocated_word ws ≡ allocated b.chunks → next_id ws ≡ b.next → first_slot ws ≡ slot_of b.chunks
    → ((k : ℕ) → 1 ≤ k → k ≤ b.slots → row ws k ≡ row_at 0 0 b.chunks k) → encode b ≡ ws
written ws b n e0 e1 e2 e3 r =
    let h = encode-head b in
    same-words b.slots (encode b) ws (encode-length b) n
    (h.0 ∙ sym e0) (h.1 ∙ sym e1) (h.2 ∙ sym e2) (h.3 ∙ sym e3) (λ k p q. encode-row b k p q ∙ sym (r k p q))
