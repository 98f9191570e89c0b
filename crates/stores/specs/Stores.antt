-- What a store into a table writes and what it changes: of the head one word, or of one slot. Assumes nothing.
use Rattle.std.specs.Prelude.{ℕ, ◌≤◌, ◌<◌, List, [], ◌∷◌, ◌≢◌, ◌≡◌, refl, length, get_or, set}
use Rattle.std.proofs.Common.{arith, ⊎_elim, sym, ap, ◌∙◌, length-set, ext_get_or, get_or-set_same, get_or-set_other}
use Rattle.laws.specs.Members.{eq_or_not}
use Rattle.table.specs.Layout.{Slot, at, row, row_word}
use Rattle.stores.specs.declared.Row.{Row}

-- ---- the words of slot k written over

-- the words of a row, in their order
abbrev pub words_of : Row → List ℕ
words_of r = r.id ∷ r.size ∷ r.first_byte ∷ r.kind ∷ r.label ∷ r.next ∷ r.previous ∷ []

-- slot k has that row, whatever it had
unfoldable pub set_row : List ℕ → ℕ → Row → List ℕ
set_row ws k r =
    let ws1 = set ws (at k 0) r.id in
    let ws2 = set ws1 (at k 1) r.size in
    let ws3 = set ws2 (at k 2) r.first_byte in
    let ws4 = set ws3 (at k 3) r.kind in
    let ws5 = set ws4 (at k 4) r.label in
    let ws6 = set ws5 (at k 5) r.next in
    set ws6 (at k 6) r.previous

-- a store at a place that is not of slot k leaves the slot's words
row_kept : (ws : List ℕ) (n v k : ℕ) → ((f : ℕ) → f < 7 → at k f ≢ n) → row (set ws n v) k ≡ row ws k
row_kept ws n v k h =
    ext_get_or 0 (row (set ws n v) k) (row ws k) refl
    (λ f l. row_word (set ws n v) k f l ∙ get_or-set_other ws n (at k f) v 0 (h f l) ∙ sym (row_word ws k f l))

-- A store into the head leaves every slot.
pub row-head_set : (ws : List ℕ) (n v k : ℕ) → n < 4 → row (set ws n v) k ≡ row ws k
row-head_set ws n v k l = row_kept ws n v k (λ f q (e : at k f ≡ n). omega arith)

-- a store into a slot leaves the head,
head_kept : (ws : List ℕ) (k j v n : ℕ) → n < 4 → get_or (set ws (at k j) v) n 0 ≡ get_or ws n 0
head_kept ws k j v n l = get_or-set_other ws (at k j) n v 0 (λ (e : n ≡ at k j). omega arith)

-- and every other slot;
row_other : (ws : List ℕ) (k j v i : ℕ) → 1 ≤ k → j < 7 → 1 ≤ i → i ≢ k → row (set ws (at k j) v) i ≡ row ws i
row_other ws k j v i p q r h = row_kept ws (at k j) v i (λ f l (e : at i f ≡ at k j). omega arith)

-- in its own slot it is a store into the row
row-set : (ws : List ℕ) (k j v : ℕ) → Slot ws k → j < 7 → row (set ws (at k j) v) k ≡ set (row ws k) j v
row-set ws k j v s l = ext_get_or 0 (row (set ws (at k j) v) k) (set (row ws k) j v) (sym (length-set (row ws k) j v)) each
  where
    each : (f : ℕ) → f < 7 → get_or (row (set ws (at k j) v) k) f 0 ≡ get_or (set (row ws k) j v) f 0
    each f q =
        row_word (set ws (at k j) v) k f q
        ∙ ⊎_elim
        (λ (e : f ≡ j).
        let i : at k j < length ws = omega arith in
        ap (λ (f : ℕ). get_or (set ws (at k j) v) (at k f) 0) e ∙ get_or-set_same ws (at k j) v 0 i
        ∙ sym (get_or-set_same (row ws k) j v 0 l) ∙ ap (λ (f : ℕ). get_or (set (row ws k) j v) f 0) (sym e))
        (λ (e : f ≢ j).
        get_or-set_other ws (at k j) (at k f) v 0 (λ (x : at k f ≡ at k j). e (omega arith)) ∙ sym (row_word ws k f q)
        ∙ sym (get_or-set_other (row ws k) j f v 0 e))
        (eq_or_not f j)

-- ---- stores into one slot

-- the words are as before but for slot k, which has the row r
pub record OnlySlot (ws ws' : List ℕ) (k : ℕ) (r : List ℕ) : Type 0 where
  pub count : length ws' ≡ length ws
  pub head : (n : ℕ) → n < 4 → get_or ws' n 0 ≡ get_or ws n 0
  pub here : row ws' k ≡ r
  pub others : (i : ℕ) → 1 ≤ i → i ≢ k → row ws' i ≡ row ws i

-- Before any store.
pub nothing : (ws : List ℕ) (k : ℕ) → OnlySlot ws ws k (row ws k)
nothing ws k = record { count = refl; head = λ n l. refl; here = refl; others = λ i p h. refl }

-- One more store into the slot is one into its row.
pub stored : {ws ws' : List ℕ} {k : ℕ} {r : List ℕ} → Slot ws k → OnlySlot ws ws' k r → (j v : ℕ) → j < 7
    → OnlySlot ws (set ws' (at k j) v) k (set r j v)
stored {ws} {ws'} {k} s h j v l = record {
  count = length-set ws' (at k j) v ∙ h.count;
  head = λ n q. head_kept ws' k j v n q ∙ h.head n q;
  here = row-set ws' k j v (rw h.count s) l ∙ ap (λ (r : List ℕ). set r j v) h.here;
  others = λ i p e. row_other ws' k j v i s.0 l p e ∙ h.others i p e;
}

-- A row written over is the seven words.
pub row_written : (ws : List ℕ) (k : ℕ) (r : Row) → Slot ws k → OnlySlot ws (set_row ws k r) k (words_of r)
unfolding set_row
row_written ws k r s =
    let h0 = stored s (nothing ws k) 0 r.id (omega arith) in
    let h1 = stored s h0 1 r.size (omega arith) in
    let h2 = stored s h1 2 r.first_byte (omega arith) in
    let h3 = stored s h2 3 r.kind (omega arith) in
    let h4 = stored s h3 4 r.label (omega arith) in
    let h5 = stored s h4 5 r.next (omega arith) in
    stored s h5 6 r.previous (omega arith)
