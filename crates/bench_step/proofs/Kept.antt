-- What a line comes to in each case, and what is at hand after it: nothing, or the words of a sound table. Assumes nothing.
use Rattle.std.specs.Prelude.{ℕ, ◌≤◌, true, List, [], ◌∷◌, ◌≡◌, refl, eqb, leb, length, replicate}
use Rattle.std.proofs.Common.{arith, inl, inr, sym, ap, ◌∙◌, leb-true, ne_eqb}
use Rattle.std.proofs.Math.Option.{Option, none, some}
use Rattle.std.proofs.lemmas.List.{length-replicate}
use Rattle.laws.specs.Every.{pass}
use Rattle.laws.specs.Reply.{Reply, accepted, refused}
use Rattle.laws.specs.Tests.{cond_cases}
use Rattle.model.specs.Runs.{Call}
use Rattle.model.specs.Runs.Call.{allocate, free, rename_to}
use Rattle.table.specs.Layout.{word_count, most_slots, most_words}
use Rattle.words.specs.Checks.{up_to}
use Rattle.words.specs.Soundness.{Sound}
use Rattle.opening.specs.Creation.{new_on}
use Rattle.opening.proofs.Exactly.{new-accepted}
use Rattle.opening.specs.Looked.{TableWords}
use Rattle.opening.proofs.NewBlock.{new-table, new-sound}
use Rattle.block.proofs.KeptOnWords.{allocate-length, allocate-sound, free-length, free-sound, rename-length, rename-sound}
use Rattle.call_lines.specs.Format.{Asked}
use Rattle.call_lines.specs.Format.Asked.{new, call}
use Rattle.bench_step.specs.Step.{Outcome, opened, new_answered, words_after, line_after, call_answered, answered}
use Rattle.bench_step.specs.Kept.{AtHand}

-- so many slots are no more than the largest table has
pub slots_most : (slots : ℕ) → up_to most_slots slots ≡ true → slots ≤ most_slots
unfolding up_to
slots_most slots u = leb-true slots most_slots (pass (leb 1 slots ∷ leb slots most_slots ∷ []) 1 u)

-- A call leaves as many words as there were.
pub after-length : (c : Call) (ws : List ℕ) → length (words_after c ws) ≡ length ws
after-length (allocate r) ws = allocate-length r ws
after-length (free id) ws = free-length id ws
after-length (rename_to id label) ws = rename-length id label ws

-- It leaves a sound table sound.
after-sound : (c : Call) (ws : List ℕ) → TableWords ws → Sound ws → TableWords (words_after c ws) × Sound (words_after c ws)
after-sound (allocate r) ws = allocate-sound r ws
after-sound (free id) ws = free-sound id ws
after-sound (rename_to id label) ws = rename-sound id label ws

-- ---- each way to an answer

call_ways : (P : Outcome → Type 0) (c : Call) (ws : List ℕ) → P (none, ws) → P (line_after c ws) → P (call_answered c ws)
unfolding call_answered
call_ways P c ws f g = cond_cases P (eqb (length ws) 0) {x = (none, ws)} {y = line_after c ws} (λ e. f) (λ e. g)

new_ways : (P : Outcome → Type 0) (size slots : ℕ) (ws : List ℕ) → P (none, ws)
    → (slots ≤ most_slots → P (opened (new_on (replicate (word_count slots) 0) size))) → P (new_answered size slots ws)
unfolding new_answered
new_ways P size slots ws f g = cond_cases P (up_to most_slots slots) (λ u. g (slots_most slots u)) (λ u. f)

-- A new block is the same one whatever was at hand.
pub new_same : (size slots : ℕ) (ws vs : List ℕ) → up_to most_slots slots ≡ true → new_answered size slots ws ≡ new_answered size slots vs
unfolding new_answered
new_same size slots ws vs u = rw u

-- With a block at hand every call is answered, and without one none is.
pub call_done : (c : Call) (ws : List ℕ) → 1 ≤ length ws → call_answered c ws ≡ line_after c ws
unfolding call_answered
call_done c ws h = rw (ne_eqb (length ws) 0 (λ e. omega arith))

pub call_none : (c : Call) → call_answered c [] ≡ (none, [])
unfolding call_answered
call_none c = refl

-- ---- soundness

opened-sound : (ws : List ℕ) (size : ℕ) (r : Reply (Unit {0}) × List ℕ) → new_on ws size ≡ r → AtHand (opened r).1
opened-sound ws size (accepted a, vs) e =
    let ok : (new_on ws size).0 ≡ accepted tt = ap (λ (x : Reply (Unit {0}) × List ℕ). x.0) e in
    let q : (new_on ws size).1 ≡ vs = ap (λ (x : Reply (Unit {0}) × List ℕ). x.1) e in
    let t = ((new-accepted ws size).0 ok).0 in
    rw (← q) (inr ((t.0, t.1, t.2, (new-table ws size ok).1 ∙ t.3), new-sound ws size ok))
opened-sound ws size (refused m, vs) e = inl refl

-- Whatever a line asks for, there is no block or a sound table after it.
pub answered-sound : (a : Option Asked) (ws : List ℕ) → AtHand ws → AtHand (answered a ws).1
answered-sound none ws h = h
answered-sound (some (new size slots)) ws h =
    new_ways (λ (x : Outcome). AtHand x.1) size slots ws h (λ s. opened-sound (replicate (word_count slots) 0) size _ refl)
answered-sound (some (call c)) ws (inl e) =
    call_ways (λ (x : Outcome). AtHand x.1) c ws (inl e) (inl (after-length c ws ∙ e))
answered-sound (some (call c)) ws (inr s) =
    call_ways (λ (x : Outcome). AtHand x.1) c ws (inr s) (inr (after-sound c ws s.0 s.1))

-- ---- room

module _ (n : ℕ) (most : most_words ≤ n) where
  opened-fits : (ws : List ℕ) (size : ℕ) (r : Reply (Unit {0}) × List ℕ) → new_on ws size ≡ r → length ws ≤ n → length (opened r).1 ≤ n
  opened-fits ws size (accepted a, vs) e h =
      let ok : (new_on ws size).0 ≡ accepted tt = ap (λ (x : Reply (Unit {0}) × List ℕ). x.0) e in
      let l : length vs ≡ length ws = sym (ap (λ (x : Reply (Unit {0}) × List ℕ). length x.1) e) ∙ (new-table ws size ok).1 in
      omega arith
  opened-fits ws size (refused m, vs) e h = omega arith

  -- No line needs more words than the largest table has, or the one at hand.
  pub answered-fits : (a : Option Asked) (ws : List ℕ) → length ws ≤ n → length (answered a ws).1 ≤ n
  answered-fits none ws h = h
  answered-fits (some (new size slots)) ws h =
      new_ways (λ (x : Outcome). length x.1 ≤ n) size slots ws h
      (λ s.
      let l : ◌≡◌ {A = ℕ} (length (replicate {A = ℕ} (word_count slots) 0)) (word_count slots) = length-replicate (word_count slots) 0 in
      opened-fits (replicate (word_count slots) 0) size _ refl (omega arith))
  answered-fits (some (call c)) ws h =
      call_ways (λ (x : Outcome). length x.1 ≤ n) c ws h (omega (arith, after-length c ws))
