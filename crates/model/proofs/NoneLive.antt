-- Exactly when a free and a rename are refused: no chunk is live under the id. Theorems. Assumes nothing.
use Rattle.std.specs.Prelude.{ℕ, true, not, ◌&&◌, ◌↔◌, ◌≢◌, ◌≡◌, refl, eqb}
use Rattle.std.proofs.Common.{arith, sym, ap, ◌∙◌, eqb-true, eq-eqb, ne_eqb}
use mathlib.Core.List.{[], ◌∷◌, reverse_aux}
use Rattle.std.proofs.Math.Option.{Option, none, some}
use Rattle.std.proofs.lemmas.Bool.{eqb-false, not-true}
use Rattle.laws.specs.Reply.{Reply, accepted, refused, number, not_refused}
use Rattle.laws.specs.Tests.{both, both_pass, either}
use Rattle.model.specs.Block.{Chunk, Block, Spot, is_free, spots}
use Rattle.model.specs.Choose.{Found}
use Rattle.model.proofs.Choose.{found, all_spots}
use Rattle.model.specs.GivingBack.{is_live, find_live, freed, release_at, release, relabel, rename_at, rename}
use Rattle.model.specs.Placing.{with_chunks}
use Rattle.model.specs.NoneLive.{NoneLive}

none_live : (id : ℕ) (b : Block) → find_live id b ≡ none ↔ NoneLive id b
none_live id b = on (find_live id b) (found (is_live id) (spots [] b.chunks))
  where
    dead : (c : Chunk) → (eqb c.id id && not (is_free c)) ≢ true → c.id ≡ id → c.kind ≡ 0
    dead c n e =
        either (c.kind ≡ 0) 0 c.kind
        (λ l. absurd (n (both_pass (eq-eqb c.id id e) (rw (ne_eqb c.kind 0 (λ z. omega arith))))))
        (λ l. omega arith)

    on : (s : Option Spot) → Found (is_live id) (spots [] b.chunks) s → s ≡ none ↔ NoneLive id b
    on none f = (
      λ e. (all_spots (λ c. c.id ≡ id → c.kind ≡ 0) [] b.chunks).0 (λ z m. dead z.chunk (f z m)),
      λ k. refl,
    )
    on (some z) f =
        let p = both (eqb z.chunk.id id) (not (is_free z.chunk)) f.1 in
        let free = (all_spots (λ c. c.id ≡ id → c.kind ≡ 0) [] b.chunks).1 in
        let live = eqb-false z.chunk.kind 0 (not-true _ p.1) in (
          λ e. let x : ◌≡◌ {A = ℕ} 0 1 = cc in absurd (omega arith),
          λ k. absurd (live (free k z f.0 (eqb-true _ _ p.0))),
        )

-- a call that looks for the live chunk with an id and is accepted where there is one
refused_none : (at : Option Spot → Reply Block) (after : Spot → Block) → at none ≡ refused 10
    → ((z : Spot) → at (some z) ≡ accepted (after z)) → (id : ℕ) (b : Block) (n : ℕ)
    → at (find_live id b) ≡ refused n ↔ ((n ≡ 10) × NoneLive id b)
refused_none at after e f id b n =
    let k = on (find_live id b) in
    let l = none_live id b in
    (λ q. ((k.0 q).0, l.0 (k.0 q).1), λ q. k.1 (q.0, l.1 q.1))
  where
    on : (s : Option Spot) → at s ≡ refused n ↔ ((n ≡ 10) × (s ≡ none))
    on none = (λ q. (omega (arith, ap number q, ap number e), refl), λ q. e ∙ ap refused (sym q.0))
    on (some z) = (
      λ q. absurd (not_refused (sym (f z) ∙ q)),
      λ q. let x : ◌≡◌ {A = ℕ} 0 1 = cc in absurd (omega arith),
    )

-- A free is refused exactly when no chunk is live under the id, and then with 10.
pub release-refused : (id : ℕ) (b : Block) (n : ℕ) → release id b ≡ refused n ↔ ((n ≡ 10) × NoneLive id b)
unfolding release
release-refused id b n = refused_none (release_at b) (λ z. with_chunks b (freed z)) refl (λ z. refl) id b n

-- So is a rename.
pub rename-refused : (id label : ℕ) (b : Block) (n : ℕ) → rename id label b ≡ refused n ↔ ((n ≡ 10) × NoneLive id b)
unfolding rename
rename-refused id label b n =
    refused_none (rename_at label b) (λ z. with_chunks b (reverse_aux z.left (relabel label z.chunk ∷ z.right)))
    refl (λ z. refl) id b n
