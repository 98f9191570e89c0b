-- What a walk that passes its tests says of the slots that it visits. Assumes nothing.
use Rattle.std.specs.Prelude.{ℕ, zero, suc, ◌+◌, ◌-◌, ◌≤◌, true, false, cond, List, [], ◌∷◌, ◌≢◌, ◌≡◌, refl, eqb}
use Rattle.std.proofs.Common.{arith, sym, ap, subst, ◌∙◌, eqb-true, eq-eqb, leb-true}
use Rattle.std.proofs.lemmas.Bool.{eqb-false, not-true}
use Rattle.laws.specs.Every.{pass}
use Rattle.laws.specs.Lists.{all_map}
use Rattle.laws.specs.Members.{has, has_other, not_head}
use Rattle.model.specs.Block.{Chunk, total}
use Rattle.table.specs.Layout.{slot_count, next_id, first_slot, id_at, size_at, kind_at, next_at}
use Rattle.words.specs.Words.{read, chunks_of, slots_of}
use Rattle.words.specs.Soundness.{Follow, Unlike}
use Rattle.words.specs.Checks.{links_ok, up_to, kind_ok, step_ok, walk_ok}
use Rattle.words.proofs.Rules.{when}
use Rattle.words.specs.Passed.{Good, Passed}

module _ (ws seen : List ℕ) (k v : ℕ) where
  other-id : has (id_at ws v) (id_at ws k ∷ seen) ≡ false → id_at ws k ≢ id_at ws v
  other-id e = not_head (id_at ws v) (id_at ws k) seen e

  new_id : has (id_at ws v) (id_at ws k ∷ seen) ≡ false → has (id_at ws v) seen ≡ false
  new_id e = sym (has_other (id_at ws v) (id_at ws k) seen (other-id e)) ∙ e

  other-slot : has (id_at ws v) (id_at ws k ∷ seen) ≡ false → Unlike k v
  other-slot e x = other-id e (ap (id_at ws) x)

step-good : (ws : List ℕ) (prev first before : ℕ) (seen : List ℕ) (k : ℕ) → 1 ≤ k →
    step_ok ws prev first before seen k ≡ true → Good ws k
unfolding step_ok up_to kind_ok
step-good ws prev first before seen k low e =
    let i : 1 ≤ id_at ws k = leb-true _ _ (pass _ 0 (pass _ 2 e)) in
    let j : id_at ws k ≤ next_id ws - 1 = leb-true _ _ (pass _ 1 (pass _ 2 e)) in
    record {
      slot = (low, leb-true _ _ (pass _ 0 e));
      id = (i, omega arith);
      size = leb-true _ _ (pass _ 4 e);
      kind = leb-true _ _ (pass _ 0 (pass _ 5 e));
      label = λ z. eqb-true _ _ ((when _ _).0 (pass _ 2 (pass _ 5 e)) (eq-eqb _ _ z));
    }

ended : (ws : List ℕ) (prev first before : ℕ) (seen : List ℕ) (k : ℕ) → k ≡ 0 → Passed ws prev first before seen k []
ended ws prev first before seen k e =
    record {
      links = e;
      follow = omega arith;
      lives = refl;
      good = tt;
      unseen = tt;
      apart = tt;
      once = tt;
      head = tt;
      neighbours = tt;
    }

walk_passed : (ws : List ℕ) (n prev first before : ℕ) (seen : List ℕ) (k : ℕ) →
    walk_ok ws prev first before seen k (read n ws k) ≡ true → Passed ws prev first before seen k (read n ws k)
unfolding walk_ok step_ok links_ok kind_ok read
walk_passed ws zero prev first before seen k e = ended ws prev first before seen k (eqb-true k 0 e)
walk_passed ws (suc n) prev first before seen zero e = ended ws prev first before seen 0 refl
walk_passed ws (suc n) prev first before seen (suc j) e =
    let k : ℕ = suc j in
    let cs : List Chunk = read n ws (next_at ws k) in
    let st : step_ok ws prev first before seen k ≡ true = pass _ 0 e in
    let r : Passed ws k (first + size_at ws k) (kind_at ws k) (id_at ws k ∷ seen) (next_at ws k) cs =
    walk_passed ws n k (first + size_at ws k) (kind_at ws k) (id_at ws k ∷ seen) (next_at ws k) (pass _ 1 e) in
    let end : first + size_at ws k + total cs ≡ first + (size_at ws k + total cs) = omega arith in
    record {
      links = (refl, eqb-true _ _ (pass _ 1 (pass _ 1 st)), r.links);
      follow = (
        eqb-true _ _ (pass _ 0 (pass _ 1 st)),
        subst (λ (x : ℕ). Follow ws (first + size_at ws k) (slots_of cs) x) end r.follow,
      );
      lives = ap (λ (x : ℕ). cond (eqb (kind_at ws k) 0) 0 (size_at ws k) + x) r.lives;
      good = (step-good ws prev first before seen k (omega arith) st, r.good);
      unseen = (not-true _ (pass _ 3 st), all_map (new_id ws seen k) (slots_of cs) r.unseen);
      apart = (all_map (other-id ws seen k) (slots_of cs) r.unseen, r.apart);
      once = (all_map (other-slot ws seen k) (slots_of cs) r.unseen, r.once);
      head = λ z x. eqb-false before 0 (not-true _ ((when _ _).0 (pass _ 1 (pass _ 5 st)) (eq-eqb _ _ x))) z;
      neighbours = (r.head, r.neighbours);
    }

-- The walk from the first slot on passes, so all this is true of the slots that it visits.
pub whole-passed : (ws : List ℕ) → walk_ok ws 0 0 1 [] (first_slot ws) (chunks_of ws) ≡ true →
    Passed ws 0 0 1 [] (first_slot ws) (chunks_of ws)
unfolding chunks_of
whole-passed ws e = walk_passed ws (slot_count ws) 0 0 1 [] (first_slot ws) e
