-- What each way through a step answers, and the store that it leaves. Assumes nothing.
use Rattle.std.proofs.Common.{ℕ, ◌≤◌, arith, true, false, List, [], ◌++◌, ◌≡◌, refl, sym, ap, ◌∙◌, eq-eqb, ne_eqb, length, take, drop, replicate, take-append-drop, length-take-le}
use Rattle.std.proofs.Math.Option.{Option, none, some}
use Rattle.std.proofs.lemmas.List.{length-replicate}
use Rattle.std.specs.Prelude.{◌≢◌}
use Rattle.laws.specs.Reply.{Reply, accepted, refused, number, not_refused}
use Rattle.laws.specs.Splice.{splice, splice_front, splice-none}
use Rattle.model.specs.Lines.{Line, line}
use Rattle.model.specs.Runs.{Call}
use Rattle.table.specs.Layout.{word_count, most_slots, most_words}
use Rattle.words.specs.Checks.{up_to}
use Rattle.opening.specs.Creation.{new_on}
use Rattle.opening.proofs.Exactly.{new-cases}
use Rattle.opening.proofs.NewBlock.{new-table, new_blind}
use Rattle.bench_step.proofs.Kept.{slots_most, after-length}
use Rattle.bench_step.specs.Step.{Outcome, opened, stored, line_after, new_answered, call_answered}

module _ (store : List ℕ) (lent : ℕ) (h : lent ≤ length store) where
  -- the first words, put back
  pub put_back : splice store 0 (take lent store) ≡ store
  put_back = splice_front store (take lent store) ∙ rw (length-take-le lent store h) (take-append-drop lent store)

  -- Nothing changes.
  pub unread : (none, lent, store) ≡ stored store (none, take lent store)
  unread = rw (length-take-le lent store h, put_back)

-- the part that was lent, and the rest
part : (a : Option Line) (store ws : List ℕ) (n : ℕ) → length ws ≡ n → (a, n, ws ++ drop n store) ≡ stored store (a, ws)
part a store ws n e = rw (splice_front store ws, e)

-- ---- a call

module _ (c : Call) (store : List ℕ) (lent : ℕ) (h : lent ≤ length store) where
  -- There is no block.
  pub no_block : lent ≡ 0 → (none, lent, store) ≡ stored store (call_answered c (take lent store))
  unfolding call_answered
  no_block e = rw (eq-eqb (length (take lent store)) 0 (length-take-le lent store h ∙ e)) (unread store lent h)

  -- The call is done on its words.
  pub called : lent ≢ 0 → (a : Option Line) (ws : List ℕ) → (a, ws) ≡ line_after c (take lent store)
      → (a, lent, ws ++ drop lent store) ≡ stored store (call_answered c (take lent store))
  unfolding call_answered
  called n a ws e =
      let l : length (take lent store) ≡ lent = length-take-le lent store h in
      let w : length ws ≡ lent = ap (λ (x : Outcome). length x.1) e ∙ after-length c (take lent store) ∙ l in
      rw (ne_eqb (length (take lent store)) 0 (λ q. n (sym l ∙ q))) (part a store ws lent w ∙ ap (stored store) e)

-- ---- a new block

-- answers that agree, and leave the same words where they are accepted
agree : (p q : Reply (Unit {0}) × List ℕ) → p.0 ≡ q.0 → (p.0 ≡ accepted tt → p.1 ≡ q.1) → opened p ≡ opened q
agree (accepted a, ws) (accepted b, vs) e h = ap (λ (x : List ℕ). (some (line 0 0 0 0), x)) (h refl)
agree (accepted a, ws) (refused m, vs) e h = absurd (not_refused e)
agree (refused n, ws) (accepted b, vs) e h = absurd (not_refused (sym e))
agree (refused n, ws) (refused m, vs) e h = ap (λ (x : ℕ). (some (line x 0 0 0), [])) (ap number e)

-- so many slots have so many words
pub slot_words : (slots end n : ℕ) → end ≡ word_count slots → up_to most_slots slots ≡ true → most_words ≤ n → end ≤ n
slot_words slots end n e u h = omega (arith, slots_most slots u)

module _ (store : List ℕ) (lent size slots : ℕ) where
  -- There are no so many slots.
  pub no_slots : lent ≤ length store → up_to most_slots slots ≡ false
      → (none, lent, store) ≡ stored store (new_answered size slots (take lent store))
  unfolding new_answered
  no_slots h u = rw u (unread store lent h)

  module _ (end : ℕ) (is : end ≡ word_count slots) (h : end ≤ length store) (u : up_to most_slots slots ≡ true) where
    lent-words : length (take end store) ≡ end
    lent-words = length-take-le end store h

    as-answered : stored store (opened (new_on (take end store) size)) ≡ stored store (new_answered size slots (take lent store))
    unfolding new_answered
    as-answered =
        let blind = new_blind (take end store) (replicate (word_count slots) 0) size (lent-words ∙ is ∙ sym (length-replicate (word_count slots) 0)) in
        rw u (ap (stored store) (agree _ _ blind.0 blind.1))

    -- It is refused, and the words are kept.
    pub new-refused : (a : Reply (Unit {0})) (ws : List ℕ) → (a, ws) ≡ new_on (take end store) size → number a ≢ 0
        → (some (line (number a) 0 0 0), 0, ws ++ drop end store) ≡ stored store (new_answered size slots (take lent store))
    new-refused (accepted x) ws e n = absurd (n refl)
    new-refused (refused m) ws e n =
        let kept : ws ≡ take end store =
        new-cases (take end store) size (λ r. (refused m, ws) ≡ r → ws ≡ take end store)
        (λ t q. ap (λ (x : Reply (Unit {0}) × List ℕ). x.1) q) (λ t s q. ap (λ (x : Reply (Unit {0}) × List ℕ). x.1) q)
        (λ t s l q. absurd (not_refused (sym (ap (λ (x : Reply (Unit {0}) × List ℕ). x.0) q)))) e in
        let whole : ws ++ drop end store ≡ splice store 0 [] =
        ap (λ (v : List ℕ). v ++ drop end store) kept ∙ take-append-drop end store ∙ sym (splice-none store 0) in
        ap (λ (v : List ℕ). (some (line m 0 0 0), 0, v)) whole ∙ ap (λ (x : Reply (Unit {0}) × List ℕ). stored store (opened x)) e ∙ as-answered

    -- It is made.
    pub new-made : (a : Reply (Unit {0})) (ws : List ℕ) → (a, ws) ≡ new_on (take end store) size → number a ≡ 0
        → (some (line (number a) 0 0 0), end, ws ++ drop end store)
        ≡ stored store (new_answered size slots (take lent store))
    new-made (accepted x) ws e n =
        let ok : (new_on (take end store) size).0 ≡ accepted tt = sym (ap (λ (x : Reply (Unit {0}) × List ℕ). x.0) e) in
        let l : length ws ≡ end =
        ap (λ (x : Reply (Unit {0}) × List ℕ). length x.1) e ∙ (new-table (take end store) size ok).1 ∙ lent-words in
        part (some (line 0 0 0 0)) store ws end l ∙ ap (λ (x : Reply (Unit {0}) × List ℕ). stored store (opened x)) e ∙ as-answered
    new-made (refused m) ws e n =
        absurd (new-cases (take end store) size (λ r. (refused m, ws) ≡ r → ⊥)
        (λ t q. omega (arith, ap (λ (x : Reply (Unit {0}) × List ℕ). number x.0) q))
        (λ t s q. omega (arith, ap (λ (x : Reply (Unit {0}) × List ℕ). number x.0) q))
        (λ t s l q. not_refused (sym (ap (λ (x : Reply (Unit {0}) × List ℕ). x.0) q))) e)
