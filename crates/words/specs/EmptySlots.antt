-- The slots that the check finds empty, by their number. Assumes nothing.
use Rattle.std.specs.Prelude.{ℕ, zero, suc, ◌≤◌, Bool, true, false, List, [], ◌∷◌, ◌≡◌, refl, eqb, get_or}
use Rattle.std.proofs.Common.{arith, ⊎_elim, ap, ◌∙◌, eqb-true, eq-eqb}
use Rattle.std.proofs.lemmas.Bool.{false≢true, eqb-false}
use Rattle.laws.specs.Counting.{count, count-pass, count-fail}
use Rattle.laws.specs.Every.{every, pass, more, none, two, cases}
use Rattle.laws.specs.Members.{same, same-eq, same_refl, not_same}
use Rattle.table.specs.Layout.{id_at, size_at, first_byte_at, kind_at, label_at, next_at, previous_at, row, empty_row}
use Rattle.words.specs.Checks.{others_zero, empty_below}

-- slot k is seven zeros
abbrev pub is_empty : List ℕ → ℕ → Bool
is_empty ws k = same (row ws k) empty_row

-- A slot with an id is not empty.
pub not_empty : (ws : List ℕ) (k : ℕ) → 1 ≤ id_at ws k → is_empty ws k ≡ false
not_empty ws k h = not_same (row ws k) empty_row 0 (λ (e : id_at ws k ≡ 0). omega arith)

-- A slot with id 0 is empty exactly where its other words are 0.
others_empty : (ws : List ℕ) (k : ℕ) → id_at ws k ≡ 0 → others_zero ws k ≡ true → is_empty ws k ≡ true
unfolding others_zero
others_empty ws k z o =
    let size : size_at ws k ≡ 0 = eqb-true _ _ (pass _ 0 o) in
    let first : first_byte_at ws k ≡ 0 = eqb-true _ _ (pass _ 1 o) in
    let kind : kind_at ws k ≡ 0 = eqb-true _ _ (pass _ 2 o) in
    let label : label_at ws k ≡ 0 = eqb-true _ _ (pass _ 3 o) in
    let next : next_at ws k ≡ 0 = eqb-true _ _ (pass _ 4 o) in
    let previous : previous_at ws k ≡ 0 = eqb-true _ _ (pass _ 5 o) in
    let zeros : row ws k ≡ empty_row = cc in
    ap (λ (l : List ℕ). same l empty_row) zeros ∙ same_refl empty_row

empty_others : (ws : List ℕ) (k : ℕ) → is_empty ws k ≡ true → others_zero ws k ≡ true
unfolding others_zero
empty_others ws k t =
    let zero-at : (j : ℕ) → get_or (row ws k) j 0 ≡ get_or empty_row j 0 =
    (λ j. ap (λ (l : List ℕ). get_or l j 0) (same-eq _ _ t)) in
    more _ _ (eq-eqb _ _ (zero-at 1))
    (more _ _ (eq-eqb _ _ (zero-at 2))
    (more _ _ (eq-eqb _ _ (zero-at 3))
    (more _ _ (eq-eqb _ _ (zero-at 4))
    (more _ _ (eq-eqb _ _ (zero-at 5))
    (more _ _ (eq-eqb _ _ (zero-at 6))
    none)))))

-- So many slots are empty as are found.
pub found_empty : (ws : List ℕ) (k e : ℕ) → empty_below ws k e ≡ true → e ≤ count (is_empty ws) k
unfolding empty_below count
found_empty ws k zero h = omega arith
found_empty ws zero (suc e) h = absurd (false≢true h)
found_empty ws (suc k) (suc e) h =
    ⊎_elim
    (λ t.
    let g : every (others_zero ws (suc k) ∷ empty_below ws k e ∷ []) ≡ true = rw t at h in
    let z : is_empty ws (suc k) ≡ true = others_empty ws (suc k) (eqb-true _ _ t) (pass _ 0 g) in
    omega (arith, found_empty ws k e (pass _ 1 g), count-pass (is_empty ws) k z))
    (λ t.
    let g : empty_below ws k (suc e) ≡ true = rw t at h in
    omega (arith, found_empty ws k (suc e) g))
    (cases (eqb (id_at ws (suc k)) 0))

-- So many are found as are empty, where no slot with id 0 has another word.
pub empty_found : (ws : List ℕ) (k e : ℕ) → ((j : ℕ) → 1 ≤ j → j ≤ k → id_at ws j ≡ 0 → is_empty ws j ≡ true) →
    e ≤ count (is_empty ws) k → empty_below ws k e ≡ true
unfolding empty_below count
empty_found ws k zero h l = refl
empty_found ws zero (suc e) h l = absurd (omega arith)
empty_found ws (suc k) (suc e) h l =
    let below : (j : ℕ) → 1 ≤ j → j ≤ k → id_at ws j ≡ 0 → is_empty ws j ≡ true = (λ j p q. h j p (omega arith)) in
    ⊎_elim
    (λ t.
    let z : is_empty ws (suc k) ≡ true = h (suc k) (omega arith) (omega arith) (eqb-true _ _ t) in
    rw t (two _ _ (empty_others ws (suc k) z) (empty_found ws k e below (omega (arith, count-pass (is_empty ws) k z)))))
    (λ t.
    let z : is_empty ws (suc k) ≡ false = not_same (row ws (suc k)) empty_row 0 (eqb-false _ _ t) in
    rw t (empty_found ws k (suc e) below (omega (arith, count-fail (is_empty ws) k z))))
    (cases (eqb (id_at ws (suc k)) 0))
