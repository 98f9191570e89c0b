-- When each call on a dedicated block is refused, and what it answers otherwise. Assumes nothing.
use Prim.Native.Nat.{ℕ, ◌≤◌, ◌<◌}
use Rattle.std.proofs.Common.{arith, inr, ⊎_elim, ap}
use Rattle.std.specs.Prelude.{Bool, true, not, cond, ◌||◌, ◌↔◌, ◌≢◌, ◌⊎◌, ◌≡◌}
use Rattle.std.proofs.Math.Bool.{false}
use Rattle.std.proofs.Math.Logic.{inl}
use Rattle.std.proofs.Math.Path.{refl, sym}
use borrow.Author.Tests.{eqb-true, eqb-false, eq-eqb, ne_eqb, not-true}
use Rattle.std.proofs.Math.Dec.{eqb}
use Rattle.laws.specs.Every.{clash}
use Rattle.laws.specs.Powers.{Pow64}
use Rattle.laws.specs.Reply.{Reply, accepted, refused, number, not_refused}
use Rattle.laws.specs.Tests.{both, both_pass, cond_cases}
use Rattle.pages.specs.Pages.{power_of_two}
use Rattle.model.specs.Placing.{Request, fault}
use Rattle.model.specs.Requests.{Words, WellFormed}
use Rattle.model.proofs.Requests.{no_fault_words, fault-range, fault-size, fault-alignment, fault-granularity, fault-kind}
use Rattle.sub_allocator.specs.Answers.{Given}
use Rattle.dedicated.specs.Dedicated.{is_sound, block, new_block, request_fault, id_fault, writes, allocate_in, free_in, rename_in, asks, allocated_in, is_empty_in, report_of}
use Rattle.dedicated.specs.Exactly.{Sound}
use Rattle.dedicated.specs.declared.record.DedicatedBlock.{DedicatedBlock}

-- ---- soundness

either : (s t : Bool) → (s || t) ≡ true → (s ≡ true) ⊎ (t ≡ true)
either true t e = inl refl
either false t e = inr e

or_right : (s : Bool) → (s || true) ≡ true
or_right true = refl
or_right false = refl

-- The check is true exactly when the record is sound.
pub sound-exactly : (d : DedicatedBlock) → is_sound d ≡ true ↔ Sound d
unfolding is_sound
sound-exactly d = (
  λ e.
      let p = both (not (eqb d.size 0)) (eqb d.allocated 0 || eqb d.allocated d.size) e in
      let n : d.size ≢ 0 = eqb-false _ _ (not-true _ p.0) in
      record {
        size = omega arith;
        allocated = ⊎_elim (λ z. inl (eqb-true _ _ z)) (λ z. inr (eqb-true _ _ z)) (either (eqb d.allocated 0) (eqb d.allocated d.size) p.1);
      },
  λ s.
      let z : eqb d.size 0 ≡ false = ne_eqb _ _ (λ (q : d.size ≡ 0). omega (arith, s.size)) in
      both_pass (ap not z)
      (⊎_elim (λ q. rw (eq-eqb d.allocated 0 q)) (λ q. rw (eq-eqb d.allocated d.size q) (or_right (eqb d.allocated 0))) s.allocated),
)

-- a call that is refused is not accepted
refusal : {A : Type 0} {told : A} {d after : DedicatedBlock} {n : ℕ}
    → ◌≡◌ {A = Reply A × DedicatedBlock} (refused n, d) (accepted told, after) → ⊥
refusal {A} e = not_refused (sym (ap (λ (x : Reply A × DedicatedBlock). x.0) e))

-- ---- new

module _ (size : ℕ) where
  -- 13 exactly when the size is 0.
  pub new-refused-13 : new_block size ≡ refused 13 ↔ size ≡ 0
  unfolding new_block
  new-refused-13 =
      cond_cases (λ r. r ≡ refused 13 ↔ size ≡ 0) (eqb size 0) (λ z. (λ e. eqb-true _ _ z, λ e. refl))
      (λ z. (λ e. absurd (not_refused e), λ e. absurd (eqb-false _ _ z e)))

  -- No other number is given.
  pub new-refused : (n : ℕ) → new_block size ≡ refused n → n ≡ 13
  unfolding new_block
  new-refused n =
      cond_cases (λ r. r ≡ refused n → n ≡ 13) (eqb size 0) (λ z e. sym (ap number e)) (λ z e. absurd (not_refused e))

  -- Any other size gives the record of that size with allocated 0 and label 0, which is sound.
  pub new-accepted : 1 ≤ size → (new_block size ≡ accepted (block size 0 0)) × Sound (block size 0 0)
  unfolding new_block
  new-accepted l =
      let z : eqb size 0 ≡ false = ne_eqb _ _ (λ (e : size ≡ 0). omega arith) in
      (rw z, record { size = l; allocated = inl refl })

module _ (d : DedicatedBlock) where
  -- what the look at the record comes to
  looked : {A : Type 0} (P : A → Type 0) {x y : A} → (Sound d → P x) → ((Sound d → ⊥) → P y) → P (cond (is_sound d) x y)
  looked P f g =
      cond_cases P (is_sound d) (λ t. f ((sound-exactly d).0 t)) (λ t. g (λ s. clash ((sound-exactly d).1 s) t))

  -- ---- allocate

  module _ (r : Request) where
    abbrev told : Given
    told = record { offset = 0; id = 1 }

    abbrev after : DedicatedBlock
    after = block d.size d.size r.label

    -- What holds of each way through the call, where that way is taken, holds of the call.
    pub allocate-cases : (P : Reply Given × DedicatedBlock → Type 0)
        → ((Sound d → ⊥) → P (refused 2, d))
        → (Sound d → fault r ≢ 0 → P (refused (fault r), d))
        → (Sound d → fault r ≡ 0 → d.allocated ≢ 0 → P (refused 11, d))
        → (Sound d → fault r ≡ 0 → d.allocated ≡ 0 → r.size ≢ d.size → P (refused 12, d))
        → (Sound d → fault r ≡ 0 → d.allocated ≡ 0 → r.size ≡ d.size → P (accepted told, after))
        → P (allocate_in d r)
    unfolding allocate_in request_fault
    allocate-cases P p2 pf p11 p12 p0 =
        looked Q
        (λ s.
        cond_cases Q (eqb (fault r) 0)
        (λ f.
        let z = eqb-true _ _ f in
        cond_cases Q (eqb d.allocated 0)
        (λ a.
        let e = eqb-true _ _ a in
        cond_cases Q (eqb r.size d.size) (λ l. p0 s z e (eqb-true _ _ l)) (λ l. p12 s z e (eqb-false _ _ l)))
        (λ a. p11 s z (eqb-false _ _ a)))
        (λ f. rw f (pf s (eqb-false _ _ f))))
        p2
      where
        Q : ℕ → Type 0
        Q n = P (writes n d told after)

    -- the numbers of a request's faults are 3 to 6
    outside : {n : ℕ} → (n < 3) ⊎ (6 < n) → fault r ≢ 0 → fault r ≡ n → ⊥
    outside h f e = ⊎_elim f (λ q. ⊎_elim (λ l. omega arith) (λ l. omega arith) h) (fault-range r)

    -- 2 exactly when the record is not sound.
    pub allocate-refused-2 : (allocate_in d r).0 ≡ refused 2 ↔ (Sound d → ⊥)
    allocate-refused-2 =
        allocate-cases (λ x. x.0 ≡ refused 2 ↔ (Sound d → ⊥)) (λ n. (λ e. n, λ m. refl))
        (λ s f. (λ e. absurd (outside (inl (omega arith)) f (ap number e)), λ m. absurd (m s)))
        (λ s f a. (λ e. absurd (omega (arith, ap number e)), λ m. absurd (m s)))
        (λ s f a l. (λ e. absurd (omega (arith, ap number e)), λ m. absurd (m s)))
        (λ s f a l. (λ e. absurd (not_refused e), λ m. absurd (m s)))

    -- 3 to 6 exactly when it is, and the request has the fault of that number.
    pub allocate-refused-fault : (n : ℕ) → 3 ≤ n → n ≤ 6 → (allocate_in d r).0 ≡ refused n ↔ (Sound d × (fault r ≡ n))
    allocate-refused-fault n a b =
        allocate-cases (λ x. x.0 ≡ refused n ↔ (Sound d × (fault r ≡ n)))
        (λ m. (λ e. absurd (omega (arith, ap number e)), λ h. absurd (m h.0)))
        (λ s f. (λ e. (s, ap number e), λ h. ap refused h.1))
        (λ s f o. (λ e. absurd (omega (arith, ap number e)), λ h. absurd (omega (arith, h.1))))
        (λ s f o l. (λ e. absurd (omega (arith, ap number e)), λ h. absurd (omega (arith, h.1))))
        (λ s f o l. (λ e. absurd (not_refused e), λ h. absurd (omega (arith, h.1))))

    -- No other number is given, and every refusal keeps the record.
    pub allocate-refused : (n : ℕ) → (allocate_in d r).0 ≡ refused n
        → ((n ≡ 2) ⊎ ((n ≡ fault r) ⊎ ((n ≡ 11) ⊎ (n ≡ 12)))) × ((allocate_in d r).1 ≡ d)
    allocate-refused n =
        allocate-cases (λ x. x.0 ≡ refused n → ((n ≡ 2) ⊎ ((n ≡ fault r) ⊎ ((n ≡ 11) ⊎ (n ≡ 12)))) × (x.1 ≡ d))
        (λ m e. (inl (sym (ap number e)), refl)) (λ s f e. (inr (inl (sym (ap number e))), refl))
        (λ s f o e. (inr (inr (inl (sym (ap number e)))), refl)) (λ s f o l e. (inr (inr (inr (sym (ap number e)))), refl))
        (λ s f o l e. absurd (not_refused e))

    -- ---- the request in the paper's words

    beside : {X : Type 0} (n : ℕ) → fault r ≡ n ↔ X → 3 ≤ n → n ≤ 6 → (allocate_in d r).0 ≡ refused n ↔ (Sound d × X)
    beside n x a b = let h = allocate-refused-fault n a b in (
      λ e. ((h.0 e).0, x.0 (h.0 e).1),
      λ q. h.1 (q.0, x.1 q.1),
    )

    -- 3 exactly when the record is sound, and the size is 0.
    pub allocate-refused-3 : (allocate_in d r).0 ≡ refused 3 ↔ (Sound d × (r.size ≡ 0))
    allocate-refused-3 = beside 3 (fault-size r) (omega arith) (omega arith)

    module _ (w : Words r) where
      -- 4 exactly when it is sound, the size is not 0, and the alignment has not exactly one bit set.
      pub allocate-refused-4 : (allocate_in d r).0 ≡ refused 4 ↔ (Sound d × ((1 ≤ r.size) × (Pow64 r.alignment → ⊥)))
      allocate-refused-4 =
          beside 4 (fault-alignment Pow64 r (power_of_two _ w.alignment) (power_of_two _ w.granularity))
          (omega arith) (omega arith)

      -- 5 exactly when it is sound, size and alignment are in order, and the granularity has not exactly one bit set.
      pub allocate-refused-5 : (allocate_in d r).0 ≡ refused 5
          ↔ (Sound d × ((1 ≤ r.size) × Pow64 r.alignment × (Pow64 r.granularity → ⊥)))
      allocate-refused-5 =
          beside 5 (fault-granularity Pow64 r (power_of_two _ w.alignment) (power_of_two _ w.granularity))
          (omega arith) (omega arith)

      -- 6 exactly when it is sound, all of these are in order, and the kind is not 1 or 2.
      pub allocate-refused-6 : (allocate_in d r).0 ≡ refused 6
          ↔ (Sound d × ((1 ≤ r.size) × Pow64 r.alignment × Pow64 r.granularity × (r.kind ≢ 1) × (r.kind ≢ 2)))
      allocate-refused-6 =
          beside 6 (fault-kind Pow64 r (power_of_two _ w.alignment) (power_of_two _ w.granularity))
          (omega arith) (omega arith)

      -- a request without a fault is a well-formed one
      in_order : fault r ≡ 0 ↔ WellFormed r
      in_order = no_fault_words r w

      -- 11 exactly when it is sound, the request well formed, and the block occupied.
      pub allocate-refused-11 : (allocate_in d r).0 ≡ refused 11 ↔ (Sound d × WellFormed r × (d.allocated ≢ 0))
      allocate-refused-11 =
          allocate-cases (λ x. x.0 ≡ refused 11 ↔ (Sound d × WellFormed r × (d.allocated ≢ 0)))
          (λ m. (λ e. absurd (omega (arith, ap number e)), λ h. absurd (m h.0)))
          (λ s f. (λ e. absurd (outside (inr (omega arith)) f (ap number e)), λ h. absurd (f (in_order.1 h.1))))
          (λ s f o. (λ e. (s, in_order.0 f, o), λ h. refl))
          (λ s f o l. (λ e. absurd (omega (arith, ap number e)), λ h. absurd (h.2 o)))
          (λ s f o l. (λ e. absurd (not_refused e), λ h. absurd (h.2 o)))

      -- 12 exactly when these are so, the block is empty, and the size differs from its own.
      pub allocate-refused-12 : (allocate_in d r).0 ≡ refused 12
          ↔ (Sound d × WellFormed r × (d.allocated ≡ 0) × (r.size ≢ d.size))
      allocate-refused-12 =
          allocate-cases (λ x. x.0 ≡ refused 12 ↔ (Sound d × WellFormed r × (d.allocated ≡ 0) × (r.size ≢ d.size)))
          (λ m. (λ e. absurd (omega (arith, ap number e)), λ h. absurd (m h.0)))
          (λ s f. (λ e. absurd (outside (inr (omega arith)) f (ap number e)), λ h. absurd (f (in_order.1 h.1))))
          (λ s f o. (λ e. absurd (omega (arith, ap number e)), λ h. absurd (o h.2)))
          (λ s f o l. (λ e. (s, in_order.0 f, o, l), λ h. refl))
          (λ s f o l. (λ e. absurd (not_refused e), λ h. absurd (h.3 l)))

      -- Accepted exactly otherwise: offset 0 and id 1, all of the block allocated, and the request's label.
      pub allocate-accepted : (Sound d × WellFormed r × (d.allocated ≡ 0) × (r.size ≡ d.size))
          ↔ allocate_in d r ≡ (accepted told, after)
      allocate-accepted =
          allocate-cases (λ x. (Sound d × WellFormed r × (d.allocated ≡ 0) × (r.size ≡ d.size)) ↔ x ≡ (accepted told, after))
          (λ m. (λ h. absurd (m h.0), λ e. absurd (refusal e)))
          (λ s f. (λ h. absurd (f (in_order.1 h.1)), λ e. absurd (refusal e)))
          (λ s f o. (λ h. absurd (o h.2), λ e. absurd (refusal e)))
          (λ s f o l. (λ h. absurd (l h.3), λ e. absurd (refusal e)))
          (λ s f o l. (λ h. refl, λ e. (s, in_order.0 f, o, l)))

-- A well-formed alignment, granularity and kind change nothing.
pub allocate_blind : (d : DedicatedBlock) (r q : Request) → fault r ≡ 0 → fault q ≡ 0 → r.size ≡ q.size
    → r.label ≡ q.label → allocate_in d r ≡ allocate_in d q
unfolding allocate_in request_fault
allocate_blind d r q a b s l = rw (a, b, s, l)

-- ---- free and rename

module _ (d : DedicatedBlock) (id : ℕ) (after : DedicatedBlock) where
  -- a call that looks at the record, then at the id
  abbrev call : Reply (Unit {0}) × DedicatedBlock
  call = writes (id_fault d id) d tt after

  pub id-cases : (P : Reply (Unit {0}) × DedicatedBlock → Type 0) → ((Sound d → ⊥) → P (refused 2, d))
      → (Sound d → id ≢ 1 → P (refused 18, d)) → (Sound d → id ≡ 1 → P (accepted tt, after)) → P call
  unfolding id_fault
  id-cases P p2 p18 p0 =
      looked d Q (λ s. cond_cases Q (eqb id 1) (λ i. p0 s (eqb-true _ _ i)) (λ i. p18 s (eqb-false _ _ i))) p2
    where
      Q : ℕ → Type 0
      Q n = P (writes n d tt after)

  id-refused-2 : call.0 ≡ refused 2 ↔ (Sound d → ⊥)
  id-refused-2 =
      id-cases (λ x. x.0 ≡ refused 2 ↔ (Sound d → ⊥)) (λ n. (λ e. n, λ m. refl))
      (λ s i. (λ e. absurd (omega (arith, ap number e)), λ m. absurd (m s)))
      (λ s i. (λ e. absurd (not_refused e), λ m. absurd (m s)))

  id-refused-18 : call.0 ≡ refused 18 ↔ (Sound d × (id ≢ 1))
  id-refused-18 =
      id-cases (λ x. x.0 ≡ refused 18 ↔ (Sound d × (id ≢ 1)))
      (λ n. (λ e. absurd (omega (arith, ap number e)), λ h. absurd (n h.0)))
      (λ s i. (λ e. (s, i), λ h. refl)) (λ s i. (λ e. absurd (not_refused e), λ h. absurd (h.1 i)))

  id-accepted : (Sound d × (id ≡ 1)) ↔ call ≡ (accepted tt, after)
  id-accepted =
      id-cases (λ x. (Sound d × (id ≡ 1)) ↔ x ≡ (accepted tt, after))
      (λ n. (λ h. absurd (n h.0), λ e. absurd (refusal e))) (λ s i. (λ h. absurd (i h.1), λ e. absurd (refusal e)))
      (λ s i. (λ h. refl, λ e. (s, i)))

  id-refused : (n : ℕ) → call.0 ≡ refused n → ((n ≡ 2) ⊎ (n ≡ 18)) × (call.1 ≡ d)
  id-refused n =
      id-cases (λ x. x.0 ≡ refused n → ((n ≡ 2) ⊎ (n ≡ 18)) × (x.1 ≡ d)) (λ m e. (inl (sym (ap number e)), refl))
      (λ s i e. (inr (sym (ap number e)), refl)) (λ s i e. absurd (not_refused e))

module _ (d : DedicatedBlock) (id : ℕ) where
  -- `free` gives 2 exactly when the record is not sound.
  pub free-refused-2 : (free_in d id).0 ≡ refused 2 ↔ (Sound d → ⊥)
  unfolding free_in
  free-refused-2 = id-refused-2 d id _

  -- 18 exactly when it is, and the id is not 1.
  pub free-refused-18 : (free_in d id).0 ≡ refused 18 ↔ (Sound d × (id ≢ 1))
  unfolding free_in
  free-refused-18 = id-refused-18 d id _

  -- Accepted exactly otherwise, occupied or not: allocated becomes 0, and the label stays.
  pub free-accepted : (Sound d × (id ≡ 1)) ↔ free_in d id ≡ (accepted tt, block d.size 0 d.label)
  unfolding free_in
  free-accepted = id-accepted d id _

  -- No other number is given, and every refusal keeps the record.
  pub free-refused : (n : ℕ) → (free_in d id).0 ≡ refused n → ((n ≡ 2) ⊎ (n ≡ 18)) × ((free_in d id).1 ≡ d)
  unfolding free_in
  free-refused = id-refused d id _

  module _ (label : ℕ) where
    -- `rename` gives 2 exactly when the record is not sound.
    pub rename-refused-2 : (rename_in d id label).0 ≡ refused 2 ↔ (Sound d → ⊥)
    unfolding rename_in
    rename-refused-2 = id-refused-2 d id _

    -- 18 exactly when it is, and the id is not 1.
    pub rename-refused-18 : (rename_in d id label).0 ≡ refused 18 ↔ (Sound d × (id ≢ 1))
    unfolding rename_in
    rename-refused-18 = id-refused-18 d id _

    -- Accepted exactly otherwise, occupied or not: only the label changes.
    pub rename-accepted : (Sound d × (id ≡ 1)) ↔ rename_in d id label ≡ (accepted tt, block d.size d.allocated label)
    unfolding rename_in
    rename-accepted = id-accepted d id _

    -- No other number is given, and every refusal keeps the record.
    pub rename-refused : (n : ℕ) → (rename_in d id label).0 ≡ refused n
        → ((n ≡ 2) ⊎ (n ≡ 18)) × ((rename_in d id label).1 ≡ d)
    unfolding rename_in
    rename-refused = id-refused d id _

-- ---- the questions

module _ {A : Type 0} (d : DedicatedBlock) (told : A) where
  asks-refused : (n : ℕ) → asks d told ≡ refused n ↔ ((n ≡ 2) × (Sound d → ⊥))
  asks-refused n =
      looked d (λ r. r ≡ refused n ↔ ((n ≡ 2) × (Sound d → ⊥)))
      (λ s. (λ e. absurd (not_refused e), λ h. absurd (h.1 s)))
      (λ m. (λ e. (sym (ap number e), m), λ h. ap refused (sym h.0)))

  asks-accepted : Sound d → asks d told ≡ accepted told
  asks-accepted s = looked d (λ r. r ≡ accepted told) (λ t. refl) (λ m. absurd (m s))

module _ (d : DedicatedBlock) where
  -- Each is refused only with 2, and exactly when the record is not sound.
  pub allocated-refused : (n : ℕ) → allocated_in d ≡ refused n ↔ ((n ≡ 2) × (Sound d → ⊥))
  unfolding allocated_in
  allocated-refused = asks-refused d _

  pub empty-refused : (n : ℕ) → is_empty_in d ≡ refused n ↔ ((n ≡ 2) × (Sound d → ⊥))
  unfolding is_empty_in
  empty-refused = asks-refused d _

  pub report-refused : (n : ℕ) → report_of d ≡ refused n ↔ ((n ≡ 2) × (Sound d → ⊥))
  unfolding report_of
  report-refused = asks-refused d _

  module _ (s : Sound d) where
    -- On a sound record `allocated` answers the record's.
    pub allocated-answer : allocated_in d ≡ accepted d.allocated
    unfolding allocated_in
    allocated-answer = asks-accepted d _ s

    -- `is_empty` answers whether that is 0.
    pub empty-answer : is_empty_in d ≡ accepted (eqb d.allocated 0)
    unfolding is_empty_in
    empty-answer = asks-accepted d _ s

    -- The report has one entry, occupied or not: first byte 0, the block's size, the label.
    pub report-answer : report_of d ≡ accepted record { first_byte = 0; size = d.size; label = d.label }
    unfolding report_of
    report-answer = asks-accepted d _ s
