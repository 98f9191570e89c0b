-- Requests: when one is well formed, and which number its first fault has. Theorems. Assumes nothing.
use Rattle.std.specs.Prelude.{ℕ, ◌≤◌, Bool, true, false, not, ◌↔◌, ◌≢◌, ◌⊎◌, ◌≡◌, refl, eqb}
use Rattle.std.proofs.Common.{arith, inl, inr, ⊎_elim, sym, ◌∙◌, eqb-true, eq-eqb}
use Rattle.std.proofs.lemmas.Bool.{false≢true, eqb-false, not-true, not-false}
use Rattle.laws.specs.Powers.{Pow2, Pow64, pow2_of_ones, ones_of_pow2}
use Rattle.laws.specs.Tests.{cond_cases}
use Rattle.pages.specs.Pages.{is_power_of_two, power_of_two}
use Rattle.model.specs.Placing.{Request, fault}
use Rattle.model.specs.Requests.{Formed, WellFormed, Words}

-- A power of two that fits a word is a power of two.
pub formed : {r : Request} → WellFormed r → Formed Pow2 r
formed h = record {
  size = h.size;
  alignment = (h.alignment.0, h.alignment.2);
  granularity = (h.granularity.0, h.granularity.2);
  kind = h.kind;
}

-- ---- the first fault, whatever power the test tells

neither : {A B : Type 0} → (A → ⊥) → (B → ⊥) → A ↔ B
neither f g = (λ a. absurd (f a), λ b. absurd (g b))

unlike : {Q : Type 0} {t : Bool} → t ≡ true ↔ Q → t ≡ false → Q → ⊥
unlike p e q = false≢true (sym e ∙ p.1 q)

module _ (Power : ℕ → Type 0) (r : Request)
    (a : is_power_of_two r.alignment ≡ true ↔ Power r.alignment)
    (g : is_power_of_two r.granularity ≡ true ↔ Power r.granularity) where
  -- every number, with when it is the first fault's
  fault-cases : (P : ℕ → Type 0)
      → (r.size ≡ 0 → P 3)
      → (1 ≤ r.size → (Power r.alignment → ⊥) → P 4)
      → (1 ≤ r.size → Power r.alignment → (Power r.granularity → ⊥) → P 5)
      → (1 ≤ r.size → Power r.alignment → Power r.granularity → r.kind ≢ 1 → r.kind ≢ 2 → P 6)
      → (Formed Power r → P 0)
      → P (fault r)
  unfolding fault
  fault-cases P p3 p4 p5 p6 p0 =
      cond_cases P (eqb r.size 0) (λ t. p3 (eqb-true _ _ t)) (λ t.
      let s : 1 ≤ r.size = omega (arith, eqb-false) in
      cond_cases P (not (is_power_of_two r.alignment)) (λ u. p4 s (unlike a (not-true _ u))) (λ u.
      let pa = a.0 (not-false _ u) in
      cond_cases P (not (is_power_of_two r.granularity)) (λ v. p5 s pa (unlike g (not-true _ v))) (λ v.
      let pg = g.0 (not-false _ v) in
      let known : (r.kind ≡ 1) ⊎ (r.kind ≡ 2) → Formed Power r =
      λ k. record { size = s; alignment = pa; granularity = pg; kind = k } in
      cond_cases P (eqb r.kind 1) (λ w. p0 (known (inl (eqb-true _ _ w)))) (λ w.
      cond_cases P (eqb r.kind 2) (λ x. p0 (known (inr (eqb-true _ _ x)))) (λ x.
      p6 s pa pg (eqb-false _ _ w) (eqb-false _ _ x))))))

  -- 0: the request is formed.
  fault-none : fault r ≡ 0 ↔ Formed Power r
  fault-none =
      fault-cases (λ n. n ≡ 0 ↔ Formed Power r)
      (λ z. neither (λ e. omega arith) (λ h. omega arith))
      (λ s na. neither (λ e. omega arith) (λ h. na h.alignment))
      (λ s pa ng. neither (λ e. omega arith) (λ h. ng h.granularity))
      (λ s pa pg n1 n2. neither (λ e. omega arith) (λ h. ⊎_elim n1 n2 h.kind))
      (λ h. (λ e. h, λ k. refl))

  -- 4: the size is not 0, and the alignment is no power.
  pub fault-alignment : fault r ≡ 4 ↔ ((1 ≤ r.size) × (Power r.alignment → ⊥))
  fault-alignment =
      fault-cases (λ n. n ≡ 4 ↔ ((1 ≤ r.size) × (Power r.alignment → ⊥)))
      (λ z. neither (λ e. omega arith) (λ q. omega arith))
      (λ s na. (λ e. (s, na), λ q. refl))
      (λ s pa ng. neither (λ e. omega arith) (λ q. q.1 pa))
      (λ s pa pg n1 n2. neither (λ e. omega arith) (λ q. q.1 pa))
      (λ h. neither (λ e. omega arith) (λ q. q.1 h.alignment))

  -- 5: the alignment is one, and the granularity is not.
  pub fault-granularity : fault r ≡ 5 ↔ ((1 ≤ r.size) × Power r.alignment × (Power r.granularity → ⊥))
  fault-granularity =
      fault-cases (λ n. n ≡ 5 ↔ ((1 ≤ r.size) × Power r.alignment × (Power r.granularity → ⊥)))
      (λ z. neither (λ e. omega arith) (λ q. omega arith))
      (λ s na. neither (λ e. omega arith) (λ q. na q.1))
      (λ s pa ng. (λ e. (s, pa, ng), λ q. refl))
      (λ s pa pg n1 n2. neither (λ e. omega arith) (λ q. q.2 pg))
      (λ h. neither (λ e. omega arith) (λ q. q.2 h.granularity))

  -- 6: both are, and the kind is neither 1 nor 2.
  pub fault-kind : fault r ≡ 6
      ↔ ((1 ≤ r.size) × Power r.alignment × Power r.granularity × (r.kind ≢ 1) × (r.kind ≢ 2))
  fault-kind =
      fault-cases
      (λ n. n ≡ 6 ↔ ((1 ≤ r.size) × Power r.alignment × Power r.granularity × (r.kind ≢ 1) × (r.kind ≢ 2)))
      (λ z. neither (λ e. omega arith) (λ q. omega arith))
      (λ s na. neither (λ e. omega arith) (λ q. na q.1))
      (λ s pa ng. neither (λ e. omega arith) (λ q. ng q.2))
      (λ s pa pg n1 n2. (λ e. (s, pa, pg, n1, n2), λ q. refl))
      (λ h. neither (λ e. omega arith) (λ q. ⊎_elim q.3 q.4 h.kind))

-- ---- the powers of two

power : (x : ℕ) → is_power_of_two x ≡ true ↔ Pow2 x
unfolding is_power_of_two
power x = (λ e. pow2_of_ones x (eqb-true _ _ e), λ p. eq-eqb _ _ (ones_of_pow2 x p))

-- The requests without a fault are the formed ones.
pub no_fault : (r : Request) → fault r ≡ 0 ↔ Formed Pow2 r
no_fault r = fault-none Pow2 r (power r.alignment) (power r.granularity)

-- 3: the size is 0.
pub fault-size : (r : Request) → fault r ≡ 3 ↔ r.size ≡ 0
fault-size r =
    fault-cases Pow2 r (power r.alignment) (power r.granularity) (λ n. n ≡ 3 ↔ r.size ≡ 0)
    (λ z. omega arith) (λ s na. omega arith) (λ s pa ng. omega arith) (λ s pa pg n1 n2. omega arith) (λ h. omega arith)

-- A fault has a number from 3 to 6.
pub fault-range : (r : Request) → (fault r ≡ 0) ⊎ ((3 ≤ fault r) × (fault r ≤ 6))
fault-range r =
    fault-cases Pow2 r (power r.alignment) (power r.granularity) (λ n. (n ≡ 0) ⊎ ((3 ≤ n) × (n ≤ 6)))
    (λ z. inr (omega arith)) (λ s na. inr (omega arith)) (λ s pa ng. inr (omega arith))
    (λ s pa pg n1 n2. inr (omega arith)) (λ h. inl refl)

-- Of 64-bit words the requests without a fault are the well-formed ones.
pub no_fault_words : (r : Request) → Words r → fault r ≡ 0 ↔ WellFormed r
no_fault_words r w = fault-none Pow64 r (power_of_two _ w.alignment) (power_of_two _ w.granularity)
