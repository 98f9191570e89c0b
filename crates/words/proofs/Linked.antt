-- Words that along "next" hold the chunks of a list, and whose "previous" agrees. Assumes nothing.
use Rattle.std.specs.Prelude.{ℕ, zero, suc, ◌+◌, ◌≤◌, true, false, List, [], ◌∷◌, ◌≢◌, ◌≡◌, refl, length, get_or}
use Rattle.std.proofs.Common.{arith, ⊎_elim, sym, ap, subst, ◌∙◌, eq-eqb, ne_eqb}
use Rattle.std.proofs.lemmas.Bool.{not-true}
use Rattle.laws.specs.Every.{pass, clash}
use Rattle.laws.specs.Lists.{All}
use Rattle.laws.specs.Members.{has, distinct, has-none, has-head, has-tail, has_other, not_head, eq_or_not}
use Rattle.model.specs.Block.{Chunk}
use Rattle.table.specs.Layout.{next_at, row, empty_row}
use Rattle.words.specs.Words.{slot_of, row_of, row_at, chunk_at, read, slots_of}
use Rattle.words.specs.Linked.{Linked}

-- ---- the row that a list of chunks says

pub row_at-here : (prev first : ℕ) (c : Chunk) (cs : List Chunk) (k : ℕ) → c.slot ≡ k
    → row_at prev first (c ∷ cs) k ≡ row_of prev first (slot_of cs) c
unfolding row_at
row_at-here prev first c cs k e = rw (eq-eqb c.slot k e)

pub row_at-there : (prev first : ℕ) (c : Chunk) (cs : List Chunk) (k : ℕ) → c.slot ≢ k
    → row_at prev first (c ∷ cs) k ≡ row_at c.slot (first + c.size) cs k
unfolding row_at
row_at-there prev first c cs k f = rw (ne_eqb c.slot k f)

-- A slot that no chunk is in is empty.
pub row_at-none : (prev first : ℕ) (cs : List Chunk) (k : ℕ) → has k (slots_of cs) ≡ false
    → row_at prev first cs k ≡ empty_row
unfolding row_at
row_at-none prev first [] k e = refl
row_at-none prev first (c ∷ cs) k e =
    let f : c.slot ≢ k = not_head k c.slot (slots_of cs) e in
    row_at-there prev first c cs k f
    ∙ row_at-none c.slot (first + c.size) cs k (sym (has_other k c.slot (slots_of cs) f) ∙ e)

-- ---- linked words

-- Linked words begin at the first chunk's slot.
pub linked_slot : (ws : List ℕ) (prev k first : ℕ) (cs : List Chunk) → Linked ws prev k first cs → k ≡ slot_of cs
linked_slot ws prev k first [] h = h
linked_slot ws prev k first (c ∷ cs) h = h.0

-- Linked words have, in the chunks' slots, the rows that the list says.
pub linked_row_at : (ws : List ℕ) (prev k first : ℕ) (cs : List Chunk) → Linked ws prev k first cs → (i : ℕ)
    → has i (slots_of cs) ≡ true → row ws i ≡ row_at prev first cs i
linked_row_at ws prev k first [] h i t = absurd (has-none i t)
linked_row_at ws prev k first (c ∷ cs) h i t =
    ⊎_elim
    (λ x.
    let n : next_at ws k ≡ slot_of cs = linked_slot ws k (next_at ws k) (first + c.size) cs h.2 in
    ap (row ws) (sym x ∙ sym h.0) ∙ h.1 ∙ ap (λ (n : ℕ). row_of prev first n c) n
    ∙ sym (row_at-here prev first c cs i x))
    (λ x.
    linked_row_at ws k (next_at ws k) (first + c.size) cs h.2 i (sym (has_other i c.slot (slots_of cs) x) ∙ t)
    ∙ ap (λ (p : ℕ). row_at p (first + c.size) cs i) h.0 ∙ sym (row_at-there prev first c cs i x))
    (eq_or_not c.slot i)

-- Words with those rows are linked, where no two chunks are in one slot.
pub row_at-linked : (ws : List ℕ) (prev first : ℕ) (cs : List Chunk) → distinct (slots_of cs) ≡ true
    → ((i : ℕ) → has i (slots_of cs) ≡ true → row ws i ≡ row_at prev first cs i) → Linked ws prev (slot_of cs) first cs
unfolding distinct
row_at-linked ws prev first [] d f = refl
row_at-linked ws prev first (c ∷ cs) d f =
    let k = c.slot in
    let e : row ws k ≡ row_of prev first (slot_of cs) c =
    f k (has-head k (slots_of cs)) ∙ row_at-here prev first c cs k refl in
    let n : next_at ws k ≡ slot_of cs = ap (λ (l : List ℕ). get_or l 5 0) e in
    let fresh : has k (slots_of cs) ≡ false = not-true _ (pass _ 0 d) in
    let rest : Linked ws k (slot_of cs) (first + c.size) cs =
    row_at-linked ws k (first + c.size) cs (pass _ 1 d)
    (λ i t.
    f i (has-tail i k (slots_of cs) t)
    ∙ row_at-there prev first c cs i (λ x. clash {a = has i (slots_of cs)} t (rw (← x) fresh))) in (
      refl,
      e ∙ ap (λ (n : ℕ). row_of prev first n c) (sym n),
      subst (λ (n : ℕ). Linked ws k n (first + c.size) cs) (sym n) rest,
    )

-- ---- reading linked words

-- the chunk that is read from a slot is the one whose words stand there
chunk_at-eq : (ws : List ℕ) (prev first next k : ℕ) (c : Chunk) → k ≡ c.slot → row ws k ≡ row_of prev first next c
    → chunk_at ws k ≡ c
chunk_at-eq ws prev first next k c p e =
    λ i.
    record {
      slot = p i;
      id = get_or (e i) 0 0;
      size = get_or (e i) 1 0;
      kind = get_or (e i) 3 0;
      label = get_or (e i) 4 0;
    }

-- What is read along "next" from linked words is the list, where as many chunks may be read as it has.
pub linked_read : (ws : List ℕ) (n prev k first : ℕ) (cs : List Chunk) → All (λ c. 1 ≤ c.slot) cs → length cs ≤ n
    → Linked ws prev k first cs → read n ws k ≡ cs
unfolding read
linked_read ws zero prev k first [] a l h = refl
linked_read ws zero prev k first (c ∷ cs) a l h = absurd (omega arith)
linked_read ws (suc n) prev zero first [] a l h = refl
linked_read ws (suc n) prev (suc k) first [] a l h = absurd (omega (arith, h))
linked_read ws (suc n) prev zero first (c ∷ cs) a l h = absurd (omega (arith, h.0, a.0))
linked_read ws (suc n) prev (suc k) first (c ∷ cs) a l h =
    let p : chunk_at ws (suc k) ≡ c = chunk_at-eq ws prev first (next_at ws (suc k)) (suc k) c h.0 h.1 in
    let q : read n ws (next_at ws (suc k)) ≡ cs =
    linked_read ws n (suc k) (next_at ws (suc k)) (first + c.size) cs a.1 (omega arith) h.2 in
    cc
