-- What each way through the parts of the check answers. Assumes nothing.
use Rattle.std.proofs.Common.{◌≡◌, ℕ, zero, suc, ◌-◌, ◌<◌, ◌≤◌, true, false, eqb, ◌≢◌, List, [], ◌∷◌, sym, refl, ap, ◌∙◌, sub-one, arith, eqb-true, eq-eqb, ne_eqb}
use Rattle.std.proofs.lemmas.Nat.{and_le_l, and_le_r}
use Rattle.std.specs.Int.Bits.{bit_or, or_add_and}
use Rattle.laws.specs.Every.{every, pass, fail, more, none, second, together}
use Rattle.table.specs.Layout.{id_at, size_at, first_byte_at, kind_at, label_at, next_at, previous_at}
use Rattle.words.specs.Checks.{others_zero, empty_below}

-- ---- `others_zero`: no bit is set in any of the words

or_none : (a b : ℕ) → bit_or a b ≡ 0 → (a ≡ 0) × (b ≡ 0)
or_none a b e = omega (arith, or_add_and a b, and_le_l a b, and_le_r a b)

none_or : (a b : ℕ) → a ≡ 0 → b ≡ 0 → bit_or a b ≡ 0
none_or a b p q = omega (arith, or_add_and a b)

six-bits : (a b c d e f : ℕ)
    → eqb (bit_or (bit_or (bit_or (bit_or a b) c) d) (bit_or e f)) 0 ≡ every (eqb a 0 ∷ eqb b 0 ∷ eqb c 0 ∷ eqb d 0 ∷ eqb e 0 ∷ eqb f 0 ∷ [])
six-bits a b c d e f = together _ _ to from
  where
    to : eqb (bit_or (bit_or (bit_or (bit_or a b) c) d) (bit_or e f)) 0 ≡ true → every (eqb a 0 ∷ eqb b 0 ∷ eqb c 0 ∷ eqb d 0 ∷ eqb e 0 ∷ eqb f 0 ∷ []) ≡ true
    to h =
        let all = or_none (bit_or (bit_or (bit_or a b) c) d) (bit_or e f) (eqb-true _ 0 h) in
        let four = or_none (bit_or (bit_or a b) c) d all.0 in
        let three = or_none (bit_or a b) c four.0 in
        let both = or_none a b three.0 in
        let links = or_none e f all.1 in
        more _ _ (eq-eqb a 0 both.0)
        (more _ _ (eq-eqb b 0 both.1)
        (more _ _ (eq-eqb c 0 three.1)
        (more _ _ (eq-eqb d 0 four.1)
        (more _ _ (eq-eqb e 0 links.0)
        (more _ _ (eq-eqb f 0 links.1) none)))))

    from : every (eqb a 0 ∷ eqb b 0 ∷ eqb c 0 ∷ eqb d 0 ∷ eqb e 0 ∷ eqb f 0 ∷ []) ≡ true → eqb (bit_or (bit_or (bit_or (bit_or a b) c) d) (bit_or e f)) 0 ≡ true
    from h =
        let both = none_or a b (eqb-true a 0 (pass _ 0 h)) (eqb-true b 0 (pass _ 1 h)) in
        let three = none_or (bit_or a b) c both (eqb-true c 0 (pass _ 2 h)) in
        let four = none_or (bit_or (bit_or a b) c) d three (eqb-true d 0 (pass _ 3 h)) in
        let links = none_or e f (eqb-true e 0 (pass _ 4 h)) (eqb-true f 0 (pass _ 5 h)) in
        eq-eqb (bit_or (bit_or (bit_or (bit_or a b) c) d) (bit_or e f)) 0 (none_or (bit_or (bit_or (bit_or a b) c) d) (bit_or e f) four links)

pub by_bits : (ws : List ℕ) (k : ℕ)
    → eqb (bit_or (bit_or (bit_or (bit_or (size_at ws k) (first_byte_at ws k)) (kind_at ws k)) (label_at ws k)) (bit_or (next_at ws k) (previous_at ws k))) 0 ≡ others_zero ws k
unfolding others_zero
by_bits ws k = six-bits (size_at ws k) (first_byte_at ws k) (kind_at ws k) (label_at ws k) (next_at ws k) (previous_at ws k)

-- ---- `rest_empty`

module _ (ws : List ℕ) where
  pub found_all : (k left : ℕ) → left ≡ 0 → true ≡ empty_below ws k left
  unfolding empty_below
  found_all k zero e = refl
  found_all k (suc left) e = absurd (omega arith)

  pub at_end : (k left : ℕ) → k < 1 → eqb left 0 ≡ empty_below ws k left
  unfolding empty_below
  at_end k zero e = refl
  at_end zero (suc left) e = ne_eqb (suc left) 0 (λ (z : suc left ≡ 0). omega arith)
  at_end (suc k) (suc left) e = absurd (omega arith)

  pub skip-used : (k left : ℕ) → 1 ≤ k → left ≢ 0 → id_at ws k ≢ 0 → empty_below ws k left ≡ empty_below ws (k - 1) left
  unfolding empty_below
  skip-used k zero m n h = absurd (n refl)
  skip-used zero (suc left) m n h = absurd (omega arith)
  skip-used (suc k) (suc left) m n h = rw (ne_eqb (id_at ws (suc k)) 0 h, sub-one)

  pub not_empty : (k left : ℕ) → 1 ≤ k → left ≢ 0 → id_at ws k ≡ 0 → others_zero ws k ≡ false → empty_below ws k left ≡ false
  unfolding empty_below
  not_empty k zero m n h e = absurd (n refl)
  not_empty zero (suc left) m n h e = absurd (omega arith)
  not_empty (suc k) (suc left) m n h e = rw (eq-eqb (id_at ws (suc k)) 0 h) (fail _ 0 e)

  pub one_found : (k left : ℕ) → 1 ≤ k → left ≢ 0 → id_at ws k ≡ 0 → others_zero ws k ≡ true → empty_below ws k left ≡ empty_below ws (k - 1) (left - 1)
  unfolding empty_below
  one_found k zero m n h e = absurd (n refl)
  one_found zero (suc left) m n h e = absurd (omega arith)
  one_found (suc k) (suc left) m n h e =
      rw (eq-eqb (id_at ws (suc k)) 0 h, sub-one) (second _ _ e ∙ ap (empty_below ws k) (sym (sub-one (suc left))))
