-- Vulkan's rule on buffer-image granularity (Resource Memory Association), and the Rust's page test held against it. Theorems. Assumes nothing.
use Rattle.std.specs.Prelude.{ℕ, zero, suc, ◌≤◌, true, false, not, ◌&&◌, ◌↔◌, ◌⊎◌, ◌≡◌, refl, eqb}
use Rattle.std.proofs.Common.{arith, inl, inr, ⊎_elim}
use Rattle.std.proofs.lemmas.Bool.{eqb-false, not-true}
use Rattle.laws.specs.Powers.{Pow64, pow2_pos}
use Rattle.laws.specs.Rounding.{align_down}
use Rattle.laws.proofs.Rounding.{down_mono}
use Rattle.laws.specs.Tests.{both, not_both, differ_below}
use Rattle.pages.specs.Mask.{mask-down}
use Rattle.pages.specs.Pages.{is_on_same_page, has_granularity_conflict}
use Rattle.pages.specs.Vulkan.{Resource, end, end_page, start_page, PagesApart, OneLinear, may_stand, Below}

one_or_two : (kind : ℕ) → kind ≤ 2 → (kind ≡ 0 → ⊥) → (kind ≡ 1) ⊎ (kind ≡ 2)
one_or_two zero l n = absurd (n refl)
one_or_two (suc zero) l n = inl refl
one_or_two (suc (suc zero)) l n = inr refl
one_or_two (suc (suc (suc k))) l n = absurd (omega arith)

-- Of the kinds 0 to 2 two conflict exactly when one is linear and the other non-linear.
pub conflict_linear : (A B : Resource) → A.kind ≤ 2 → B.kind ≤ 2 → has_granularity_conflict A.kind B.kind ≡ true ↔ OneLinear A B
unfolding has_granularity_conflict
conflict_linear A B la lb = (λ e. told e, ⊎_elim (λ w. rw (w.0, w.1)) (λ w. rw (w.0, w.1)))
  where
    told : (not (eqb A.kind 0) && (not (eqb B.kind 0) && not (eqb A.kind B.kind))) ≡ true → OneLinear A B
    told e =
        let p = both (not (eqb A.kind 0)) (not (eqb B.kind 0) && not (eqb A.kind B.kind)) e in
        let q = both (not (eqb B.kind 0)) (not (eqb A.kind B.kind)) p.1 in
        let b : B.kind ≡ 0 → ⊥ = eqb-false B.kind 0 (not-true _ q.0) in
        let n : A.kind ≡ B.kind → ⊥ = eqb-false A.kind B.kind (not-true _ q.1) in
        ⊎_elim (λ (o : A.kind ≡ 1). inl (o, omega arith)) (λ (o : A.kind ≡ 2). inr (o, omega arith)) (one_or_two A.kind la (eqb-false A.kind 0 (not-true _ p.0)))

module _ (granularity : ℕ) (A B : Resource) (p : Pow64 granularity) (h : Below A B) where
  ordered : align_down (end A) granularity ≤ align_down B.offset granularity
  ordered = let u = h.under in down_mono (pow2_pos (p.0, p.2)) (omega arith)

  end-page : end_page granularity A ≡ align_down (end A) granularity
  end-page = let u = h.under in let r = h.reach in mask-down (end A) (omega arith) p

  start-page : start_page granularity B ≡ align_down B.offset granularity
  start-page = mask-down B.offset h.reach p

  -- For A wholly below B the page test is false exactly when Vulkan's property holds.
  pub page-test : is_on_same_page A.offset A.size B.offset granularity ≡ false ↔ PagesApart granularity A B
  unfolding is_on_same_page
  page-test = rw (end-page, start-page) (differ_below ordered)

  -- Of the kinds 0 to 2 (a free chunk among them) the two tests together let A stand below B exactly as Vulkan's rule does.
  pub may-stand : A.kind ≤ 2 → B.kind ≤ 2 → may_stand granularity A B ≡ true ↔ (OneLinear A B → PagesApart granularity A B)
  unfolding may_stand
  may-stand a b =
      let t = not_both (is_on_same_page A.offset A.size B.offset granularity) (has_granularity_conflict A.kind B.kind) in
      let c = conflict_linear A B a b in
      (λ e o. page-test.0 (t.0 e (c.1 o)), λ f. t.1 (λ e. page-test.1 (f (c.0 e))))
