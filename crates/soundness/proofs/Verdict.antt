-- The answers of `is_sound`: the head, the walk and the other slots together decide. Assumes nothing.
use Rattle.std.proofs.Common.{◌≡◌, ℕ, ◌-◌, ◌≤◌, Bool, true, false, cond, List, length, Some, None, refl, sym, ap, ◌∙◌, leb-true, arith}
use Rattle.laws.specs.Every.{pass, more, none, together, clash}
use Rattle.table.specs.Layout.{is_table, slot_count, next_id}
use Rattle.words.specs.Words.{sound, chunks_of}
use Rattle.words.specs.Checks.{walked, chunks_walked, empty_below, checked, head_ok}
use Rattle.words.specs.Walking.{walked-fits}
use Rattle.words.proofs.Checked.{checked-sound}
use Rattle.walking.specs.Answers.{whole_walk, chunks_met, counted}

pub next_known : (ws : List ℕ) → head_ok ws ≡ true → 2 ≤ next_id ws
unfolding head_ok
next_known ws e = leb-true 2 (next_id ws) (pass _ 2 e)

-- A walk that met so many chunks broke no rule, and they are all.
walked_all : (ws : List ℕ) (n : ℕ) → whole_walk ws ≡ Some n → (walked ws ≡ true) × (n ≡ length (chunks_of ws))
unfolding whole_walk
walked_all ws n = go (walked ws)
  where
    go : (b : Bool) → cond b (Some (length (chunks_of ws))) None ≡ Some n → (b ≡ true) × (n ≡ length (chunks_of ws))
    go true e = (refl, cc)
    go false e = let z : ◌≡◌ {A = ℕ} 0 1 = cc in absurd (omega arith)

-- At most so many as there are slots.
pub met-fits : (ws : List ℕ) (n : ℕ) → whole_walk ws ≡ Some n → n ≤ slot_count ws
met-fits ws n e =
    let m : n ≡ chunks_walked ws = ap chunks_met (sym e) ∙ counted ws in
    rw m (walked-fits ws)

module _ (ws : List ℕ) (i : is_table ws ≡ true) where
  refuted : (checked ws ≡ true → ⊥) → false ≡ sound ws
  refuted f = go (checked ws) refl ∙ checked-sound ws i
    where
      go : (b : Bool) → checked ws ≡ b → false ≡ b
      go true e = absurd (f e)
      go false e = refl

  pub bad-head : head_ok ws ≡ false → false ≡ sound ws
  unfolding head_ok checked
  bad-head e = refuted (λ c. clash (more _ _ (pass _ 0 c) (more _ _ (pass _ 1 c) (more _ _ (pass _ 2 c) none))) e)

  pub bad-walk : whole_walk ws ≡ None → false ≡ sound ws
  unfolding whole_walk checked
  bad-walk e = refuted (λ c. let t = pass _ 3 c in let z : ◌≡◌ {A = ℕ} 0 1 = cc in absurd (omega arith))

  -- What is left to decide are the slots that were not walked.
  pub by-rest : (n : ℕ) → head_ok ws ≡ true → whole_walk ws ≡ Some n → empty_below ws (slot_count ws) (slot_count ws - n) ≡ sound ws
  unfolding head_ok checked
  by-rest n h e =
      let w = walked_all ws n e in
      ap (λ (m : ℕ). empty_below ws (slot_count ws) (slot_count ws - m)) w.1
      ∙ together _ _ (λ r. more _ _ (pass _ 0 h) (more _ _ (pass _ 1 h) (more _ _ (pass _ 2 h) (more _ _ w.0 (more _ _ r none))))) (λ c. pass _ 4 c)
      ∙ checked-sound ws i
