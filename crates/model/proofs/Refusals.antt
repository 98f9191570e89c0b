-- Exactly when a request is refused, and with which number. Theorems. Assumes nothing.
use Prim.Native.Nat.{ℕ, zero, suc, ◌+◌, ◌≤◌, ◌<◌}
use Rattle.std.proofs.Common.{arith, sym, ◌∙◌, eq-eqb, ne_eqb, lt-ltb, le-ltb}
use Rattle.std.specs.Prelude.{◌↔◌, ◌≢◌, ◌⊎◌, ◌≡◌}
use Rattle.std.proofs.Math.Logic.{inl, inr, ⊎_elim}
use Rattle.std.proofs.Math.Logic.Iff
use Rattle.std.proofs.Math.Option.{Option, none, some}
use Rattle.std.proofs.Math.Path.{refl, ap}
use Rattle.laws.specs.Lists.{all_at}
use Rattle.laws.specs.Powers.{Pow64}
use Rattle.laws.specs.Reply.{accepted, refused, number, not_refused}
use Rattle.laws.specs.Tests.{either}
use Rattle.pages.specs.Pages.{power_of_two}
use Rattle.model.specs.Block.{Block, Spot, first, no_id}
use Rattle.model.specs.Placing.{Request, offset_in, taken_at, taken, chosen, new_slot, take_whole, split_off, place_piece, place_in, fault, unless_fault, place}
use Rattle.model.specs.Put.{Lowest, Choice}
use Rattle.model.proofs.Put.{answers, opened}
use Rattle.model.specs.Requests.{WellFormed, Words}
use Rattle.model.proofs.Requests.{formed, no_fault_words, fault-range, fault-size, fault-alignment, fault-granularity, fault-kind}
use Rattle.model.specs.Room.{Room}
use Rattle.model.proofs.Room.{choice, no_room, place_found}
use Rattle.model.specs.Slots.{Used, Unused}
use Rattle.model.proofs.Slots.{no_empty_slot}
use Rattle.model.specs.Soundness.{Sound}
use Rattle.model.specs.Refusals.{Splits}

-- what a refusal's number n tells of a request whose first fault has the number m
abbrev Told : ℕ → ℕ → Type 0
Told m n = ((m ≡ n) × (3 ≤ n) × (n ≤ 6)) ⊎ ((m ≡ 0) × (7 ≤ n) × (n ≤ 9))

module _ (r : Request) (b : Block) where
  late : (s : Option Spot) (n : ℕ) → place_in r b s ≡ refused n → (7 ≤ n) × (n ≤ 9)
  late none n e = omega (arith, ap number e)
  late (some z) n e =
      answers r b (λ a. a ≡ refused n → (7 ≤ n) × (n ≤ 9)) z
      (λ u v q. omega (arith, ap number q)) (λ u v w q. omega (arith, ap number q))
      (λ u v w q. absurd (not_refused q)) (λ u q. absurd (not_refused q)) e

  told : (n : ℕ) → place r b ≡ refused n → Told (fault r) n
  unfolding place
  told n e = on (fault r) (fault-range r) e
    where
      on : (m : ℕ) → (m ≡ 0) ⊎ ((3 ≤ m) × (m ≤ 6)) → unless_fault m (place_in r b (chosen r b)) ≡ refused n → Told m n
      on zero h q = let l = late (chosen r b) n q in inr (refl, l.0, l.1)
      on (suc m) (inl h) q = absurd (omega arith)
      on (suc m) (inr h) q = inl (omega (arith, ap number q))

  -- No request is refused with another number than 3 to 9.
  pub refused-range : (n : ℕ) → place r b ≡ refused n → (3 ≤ n) × (n ≤ 9)
  refused-range n e = ⊎_elim (λ q. (q.1, omega arith)) (λ q. (omega arith, q.2)) (told n e)

  -- ---- 3 to 6: the request is not well formed

  early : (n : ℕ) → 1 ≤ n → n < 7 → place r b ≡ refused n ↔ fault r ≡ n
  unfolding place
  early n l h = (λ e. ⊎_elim (λ q. q.0) (λ q. absurd (omega arith)) (told n e), λ q. rw q (on n l))
    where
      on : (n : ℕ) → 1 ≤ n → unless_fault n (place_in r b (chosen r b)) ≡ refused n
      on zero k = absurd (omega arith)
      on (suc n) k = refl

  -- 3 exactly when the size is 0.
  pub refused-3 : place r b ≡ refused 3 ↔ r.size ≡ 0
  refused-3 = Iff.trans (early 3 (omega arith) (omega arith)) (fault-size r)

  module _ (w : Words r) where
    -- 4 exactly when it is not, and the alignment has not exactly one bit set.
    pub refused-4 : place r b ≡ refused 4 ↔ ((1 ≤ r.size) × (Pow64 r.alignment → ⊥))
    refused-4 =
        Iff.trans (early 4 (omega arith) (omega arith))
        (fault-alignment Pow64 r (power_of_two _ w.alignment) (power_of_two _ w.granularity))

    -- 5 exactly when size and alignment are in order, and the granularity has not exactly one bit set.
    pub refused-5 : place r b ≡ refused 5 ↔ ((1 ≤ r.size) × Pow64 r.alignment × (Pow64 r.granularity → ⊥))
    refused-5 =
        Iff.trans (early 5 (omega arith) (omega arith))
        (fault-granularity Pow64 r (power_of_two _ w.alignment) (power_of_two _ w.granularity))

    -- 6 exactly when all of these are in order, and the kind is not 1 or 2.
    pub refused-6 : place r b ≡ refused 6
        ↔ ((1 ≤ r.size) × Pow64 r.alignment × Pow64 r.granularity × (r.kind ≢ 1) × (r.kind ≢ 2))
    refused-6 =
        Iff.trans (early 6 (omega arith) (omega arith))
        (fault-kind Pow64 r (power_of_two _ w.alignment) (power_of_two _ w.granularity))

    well-formed : (n : ℕ) → 7 ≤ n → place r b ≡ refused n → WellFormed r
    well-formed n l e = (no_fault_words r w).0 (⊎_elim (λ q. absurd (omega arith)) (λ q. q.0) (told n e))

taken-bytes : (r : Request) (z : Spot) → first z ≤ offset_in r z → first z + taken r z ≡ offset_in r z + r.size
unfolding taken_at
taken-bytes r z l = omega arith

module _ (r : Request) (h : WellFormed r) (b : Block) (sound : Sound b) where
  taken-there : (z : Spot) (o : ℕ) → Lowest (Room r b) z o → first z + taken r z ≡ o + r.size
  taken-there z o k =
      let f = (place_found r h b sound z o k).0 in
      omega (arith, taken-bytes r z (omega (arith, k.room.above)))

  -- An exact fit is accepted, whatever ids and slots are used up: the chunk becomes live under its own id.
  pub exact-fit : (z : Spot) (o : ℕ) → Lowest (Room r b) z o → o + r.size ≡ first z + z.chunk.size
      → place r b ≡ accepted record { offset = o; id = z.chunk.id; block = take_whole r z b }
  exact-fit z o k e =
      let f = place_found r h b sound z o k in
      f.1 ∙ rw (f.0, le-ltb (taken r z) z.chunk.size (omega (arith, taken-there z o k)))

  module _ (s : Splits r b) where
    split-found : place r b ≡ place_piece r s.spot b
    split-found =
        let f = place_found r h b sound s.spot s.offset s.best in
        let t = taken-there s.spot s.offset s.best in
        f.1 ∙ rw (lt-ltb (taken r s.spot) s.spot.chunk.size (omega (arith, s.larger)))

    -- A split is accepted where there is an id and an unused slot: the new left piece has the next id.
    pub split-accepted : b.next ≢ no_id → (k : ℕ) → 1 ≤ k → k ≤ b.slots → Unused k b.chunks
        → place r b ≡ accepted record { offset = s.offset; id = b.next; block = split_off r s.spot b }
    split-accepted n k one top u =
        let f = place_found r h b sound s.spot s.offset s.best in
        split-found ∙ rw (ne_eqb b.next no_id n, le-ltb b.slots (new_slot b) free-slot, f.0)
      where
        free-slot : new_slot b ≤ b.slots
        free-slot =
            either (new_slot b ≤ b.slots) b.slots (new_slot b)
            (λ l.
            let v = (no_empty_slot b).0 l k one top in
            absurd (all_at (λ c. c.slot ≢ k) b.chunks u v.0 v.1 v.2))
            (λ l. l)

    split-no-id : b.next ≡ no_id → place r b ≡ refused 8
    split-no-id e = split-found ∙ rw (eq-eqb b.next no_id e)

    split-no-slot : b.next ≢ no_id → b.slots < new_slot b → place r b ≡ refused 9
    split-no-slot n l = split-found ∙ rw (ne_eqb b.next no_id n, lt-ltb b.slots (new_slot b) l)

  -- what 8 and 9 tell
  NotSplit : ℕ → Type 0
  NotSplit n =
      Splits r b
      × (((n ≡ 8) × (b.next ≡ no_id)) ⊎ ((n ≡ 9) × (b.next ≢ no_id) × (b.slots < new_slot b)))

  not-split : (n : ℕ) → 8 ≤ n → place r b ≡ refused n → NotSplit n
  unfolding NotSplit
  not-split n l e = on (chosen r b) (choice r h b sound) (sym (opened r b (formed h)) ∙ e)
    where
      splits : (z : Spot) → Lowest (Room r b) z (offset_in r z) → taken r z < z.chunk.size → Splits r b
      splits z k t = record {
        spot = z;
        offset = offset_in r z;
        best = k;
        larger = omega (arith, taken-bytes r z k.room.above);
      }

      on : (s : Option Spot) → Choice (Room r b) r s → place_in r b s ≡ refused n → NotSplit n
      on none k q = absurd (omega (arith, ap number q))
      on (some z) k q =
          answers r b (λ a. a ≡ refused n → NotSplit n) z
          (λ t u p. (splits z k t, inl (omega (arith, ap number p), u)))
          (λ t u v p. (splits z k t, inr (omega (arith, ap number p), u, v)))
          (λ t u v p. absurd (not_refused p))
          (λ t p. absurd (not_refused p)) q

-- ---- 7 to 9: the request is well formed

module _ (r : Request) (w : Words r) (b : Block) (sound : Sound b) where
  -- 7 exactly when no free chunk has room for it.
  pub refused-7 : place r b ≡ refused 7 ↔ (WellFormed r × ((z : Spot) (o : ℕ) → Room r b z o → ⊥))
  refused-7 = (
    λ e. let h = well-formed r b w 7 (omega arith) e in (h, (no_room r h b sound).0 e),
    λ q. (no_room r q.0 b sound).1 q.1,
  )

  -- 8 exactly when a chunk is to be split, and the next id is 2^64 - 1.
  pub refused-8 : place r b ≡ refused 8 ↔ (WellFormed r × Splits r b × (b.next ≡ no_id))
  unfolding NotSplit
  refused-8 = (
    λ e.
        let h = well-formed r b w 8 (omega arith) e in
        let k = not-split r h b sound 8 (omega arith) e in
        (h, k.0, ⊎_elim (λ q. q.1) (λ q. absurd (omega arith)) k.1),
    λ q. split-no-id r q.0 b sound q.1 q.2,
  )

  -- 9 exactly when a chunk is to be split, the next id is not that, and every slot is used.
  pub refused-9 : place r b ≡ refused 9
      ↔ (WellFormed r × Splits r b × (b.next ≢ no_id) × ((k : ℕ) → 1 ≤ k → k ≤ b.slots → Used k b.chunks))
  unfolding NotSplit
  refused-9 = (
    λ e.
        let h = well-formed r b w 9 (omega arith) e in
        let k = not-split r h b sound 9 (omega arith) e in
        ⊎_elim (λ q. absurd (omega arith)) (λ q. (h, k.0, q.1, (no_empty_slot b).0 q.2)) k.1,
    λ q. split-no-slot r q.0 b sound q.1 q.2 ((no_empty_slot b).1 q.3),
  )
