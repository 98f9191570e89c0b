-- What a call answers for the live chunk with an id. Assumes nothing.
use Prim.Native.Nat.{ℕ, zero, suc}
use mathlib.Core.Bool.{true}
use mathlib.Core.List.{List}
use native.Mathlib.Omega.{arith}
use mathlib.Core.Logic.{◌≢◌, ⊎_elim}
use mathlib.Core.Option.{Option, none, some}
use mathlib.Core.Path.{◌≡◌, refl, sym, ap, subst, ◌∙◌}
use Rattle.laws.specs.Members.{eq_or_not}
use Rattle.laws.specs.Reply.{Reply, accepted, refused, number, not_refused}
use Rattle.model.specs.Block.{Block, Spot}
use Rattle.model.specs.GivingBack.{find_live, freed, release_at, release, rename_at, rename}
use Rattle.model.specs.Placing.{with_chunks}
use Rattle.table.specs.Layout.{is_table}
use Rattle.words.specs.Spots.{InSlot}
use Rattle.words.specs.Words.{encode, block_of, sound, decode}
use Rattle.words.proofs.Written.{known}
use Rattle.search.specs.Live.{live_slot, live-none, live-some}
use Rattle.chunks.specs.Premises.{LiveIn}
use Rattle.chunks.specs.Steps.{relabelled}
use Rattle.opening.specs.Look.{on_table, table_fault}
use Rattle.search.specs.Slots.{some_slot}
use Rattle.giving_back.specs.GivingBack.{changes, slot_found, found_on, free_on, rename_on, Bounded}
use Rattle.opening.specs.Fault.{is-fit, unfit, on-block}
use Rattle.opening.proofs.Turned.{turned-away}
use Rattle.std.specs.Prelude.{ok_or}
use Rattle.refusals.specs.declared.Refusal.{Refusal}
use Rattle.refusals.specs.declared.Refusal.TheVariants.{UnknownId}
use Rattle.refusals.specs.Refusals.{number_of, reply}

-- what is known of a chunk that was found
pub record FoundLive (ws : List ℕ) (id k : ℕ) : Type 0 where
  pub table : is_table ws ≡ true
  pub sound : sound ws ≡ true
  pub spot : Spot
  pub found : find_live id (block_of ws) ≡ some spot
  pub live : LiveIn ws k spot
  pub bounded : Bounded (block_of ws)

same : (j k : ℕ) → accepted j ≡ accepted k → j ≡ k
same j k e = cc

module _ (ws : List ℕ) (id : ℕ) where
  -- ---- looking for it

  not-looked : table_fault ws ≢ 0 → refused (table_fault ws) ≡ found_on ws id
  unfolding found_on
  not-looked n = sym (unfit ws (λ b. slot_found (find_live id b)) n)

  pub not_looked : (r : Refusal) → number_of r ≡ table_fault ws → refused (number_of r) ≡ found_on ws id
  unfolding found_on
  not_looked = turned-away ws (λ b. slot_found (find_live id b))

  module _ (t : is_table ws ≡ true) (s : sound ws ≡ true) where
    looked : found_on ws id ≡ slot_found (find_live id (block_of ws))
    unfolding found_on
    looked = on-block ws (λ b. slot_found (find_live id b)) t s

    not_found : live_slot ws id ≡ 0 → refused 10 ≡ found_on ws id
    not_found e = sym (looked ∙ ap slot_found (live-none ws s id e))

    was-found : live_slot ws id ≢ 0 → accepted (live_slot ws id) ≡ found_on ws id
    was-found n =
        let f = live-some ws s id n in
        sym (looked ∙ ap slot_found f.1 ∙ ap accepted f.2.slot)

    -- what is answered, as the search for it says
    pub found_told : reply (ok_or (some_slot (live_slot ws id)) UnknownId) ≡ found_on ws id
    found_told = told (live_slot ws id) refl
      where
        told : (n : ℕ) → live_slot ws id ≡ n → reply (ok_or (some_slot n) UnknownId) ≡ found_on ws id
        told zero e = not_found e
        told (suc n) e = ap accepted (sym e) ∙ was-found (λ (z : live_slot ws id ≡ 0). let y : suc n ≡ 0 = sym e ∙ z in absurd cc)

  -- ---- what comes of it

  pub found_live : (k : ℕ) → accepted k ≡ found_on ws id → FoundLive ws id k
  found_live k e =
      ⊎_elim (λ z. let f = is-fit ws z in here f.0 f.1) (λ n. absurd (not_refused (e ∙ sym (not-looked n))))
      (eq_or_not (table_fault ws) 0)
    where
      here : is_table ws ≡ true → sound ws ≡ true → FoundLive ws id k
      here t s =
          ⊎_elim (λ z. absurd (not_refused (e ∙ sym (not_found t s z))))
          (λ n.
          let f = live-some ws s id n in
          let q : live_slot ws id ≡ k = same (live_slot ws id) k (was-found t s n ∙ sym e) in
          let b = (known ws s).block in
          record {
            table = t;
            sound = s;
            spot = f.0;
            found = f.1;
            live = record { place = subst (λ (j : ℕ). InSlot ws j f.0) q f.2; live = f.3 };
            bounded = record { bytes = omega (arith, b.whole, b.size.1); labels = b.labels };
          })
          (eq_or_not (live_slot ws id) 0)

  -- f is what a call makes of the chunk, or of there being none
  module _ (f : Block → Option Spot → Reply Block) where
    refused-too : ((b : Block) → f b none ≡ refused 10) → (n : ℕ) → refused n ≡ found_on ws id
        → (refused n, ws) ≡ changes ws (on_table (λ b. f b (find_live id b)) (decode ws))
    refused-too ten n e =
        ⊎_elim
        (λ z.
        let t = is-fit ws z in
        none-there (find_live id (block_of ws)) (e ∙ looked t.0 t.1)
        ∙ ap (changes ws) (sym (on-block ws (λ b. f b (find_live id b)) t.0 t.1)))
        (λ m.
        let q : n ≡ table_fault ws = ap number (e ∙ sym (not-looked m)) in
        rw (unfit ws (λ b. f b (find_live id b)) m, q))
        (eq_or_not (table_fault ws) 0)
      where
        none-there : (o : Option Spot) → refused n ≡ slot_found o → (refused n, ws) ≡ changes ws (f (block_of ws) o)
        none-there none q = let m : n ≡ 10 = ap number q in rw (ten (block_of ws), m)
        none-there (some z) q = absurd (not_refused (sym q))

    done-too : (k : ℕ) (h : FoundLive ws id k) (after : Block) (ws' : List ℕ) → f (block_of ws) (some h.spot) ≡ accepted after
        → ws' ≡ encode after → (accepted tt, ws') ≡ changes ws (on_table (λ b. f b (find_live id b)) (decode ws))
    done-too k h after ws' e w =
        rw (on-block ws (λ b. f b (find_live id b)) h.table h.sound, h.found, e, w)

  -- ---- the two calls

  pub free_refused : (n : ℕ) → refused n ≡ found_on ws id → (refused n, ws) ≡ free_on ws id
  unfolding free_on release
  free_refused = refused-too release_at (λ b. refl)

  pub free_done : (k : ℕ) (h : FoundLive ws id k) (ws' : List ℕ) → ws' ≡ encode (with_chunks (block_of ws) (freed h.spot))
      → (accepted tt, ws') ≡ free_on ws id
  unfolding free_on release
  free_done k h ws' = done-too release_at k h (with_chunks (block_of ws) (freed h.spot)) ws' refl

  module _ (label : ℕ) where
    pub rename_refused : (n : ℕ) → refused n ≡ found_on ws id → (refused n, ws) ≡ rename_on ws id label
    unfolding rename_on rename
    rename_refused = refused-too (rename_at label) (λ b. refl)

    pub rename_done : (k : ℕ) (h : FoundLive ws id k) (ws' : List ℕ) → ws' ≡ encode (relabelled label h.spot (block_of ws))
        → (accepted tt, ws') ≡ rename_on ws id label
    unfolding rename_on rename relabelled
    rename_done k h ws' = done-too (rename_at label) k h (relabelled label h.spot (block_of ws)) ws' refl
