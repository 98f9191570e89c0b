-- When placing, giving back and renaming are refused, and with which number; they are accepted otherwise. Theorems. Assumes nothing.
use Rattle.std.specs.Prelude.{ℕ, ◌≤◌, List, ◌↔◌, ◌≢◌, ◌⊎◌, ◌≡◌, refl}
use Rattle.std.proofs.Common.{arith, inl, inr, sym, ap, ◌∙◌}
use Rattle.laws.specs.Powers.{Pow64}
use Rattle.laws.specs.Reply.{Reply, accepted, refused}
use Rattle.model.specs.Block.{Block, Spot, no_id}
use Rattle.model.specs.Effects.{LiveIn}
use Rattle.model.proofs.Effects.{released, renamed}
use Rattle.model.specs.GivingBack.{release, rename}
use Rattle.model.specs.NoneLive.{NoneLive}
use Rattle.model.proofs.NoneLive.{release-refused, rename-refused}
use Rattle.model.specs.Placing.{Request, place}
use Rattle.model.proofs.Put.{accepted-formed}
use Rattle.model.proofs.Refusals.{refused-range, refused-3, refused-4, refused-5, refused-6, refused-7, refused-8, refused-9}
use Rattle.model.specs.Requests.{Words, WellFormed}
use Rattle.model.proofs.Requests.{no_fault, no_fault_words}
use Rattle.table.specs.Layout.{Slot, next_id}
use Rattle.words.specs.Words.{block_of, decode}
use Rattle.words.specs.Soundness.{Used, Sound}
use Rattle.opening.specs.Look.{on_table}
use Rattle.sub_allocator.specs.Answers.{Given}
use Rattle.placing.specs.Placing.{given, allocate_on}
use Rattle.giving_back.specs.GivingBack.{changes, free_on, rename_on}
use Rattle.opening.specs.Looked.{TableWords}
use Rattle.opening.proofs.Looked.{sound-answered}
use Rattle.opening.proofs.Outcomes.{outcome-kept, outcome-accepted, outcome-1, outcome-2, outcome-later, outcome-range}
use Rattle.block.specs.SlotsOnWords.{table-known, spot-stands, none-live-words, all-used-words}
use Rattle.block.specs.RoomOnWords.{RoomAt, SplitsAt, PlacedAt}
use Rattle.block.proofs.RoomOnWords.{no-room-words, splits-words, placed-accepted, room_accepted}
use Rattle.block.specs.Refused.{LiveSlot, NoLiveSlot}

-- ---- allocate

module _ (ws : List ℕ) (r : Request) where
  place-later : (b : Block) (n : ℕ) → place r b ≡ refused n → 3 ≤ n
  place-later b n e = (refused-range r b n e).0

  -- A refusal keeps the words.
  pub allocate-refused-keeps : (n : ℕ) → (allocate_on ws r).0 ≡ refused n → (allocate_on ws r).1 ≡ ws
  unfolding allocate_on
  allocate-refused-keeps n e = outcome-kept given (λ p. p.block) (place r) ws n e

  -- 1 exactly when the word count is not 4 + 7s.
  pub allocate-refused-1 : (allocate_on ws r).0 ≡ refused 1 ↔ (TableWords ws → ⊥)
  unfolding allocate_on
  allocate-refused-1 = outcome-1 given (λ p. p.block) (place r) ws place-later

  -- 2 exactly when it is, and the table is not sound.
  pub allocate-refused-2 : (allocate_on ws r).0 ≡ refused 2 ↔ (TableWords ws × (Sound ws → ⊥))
  unfolding allocate_on
  allocate-refused-2 = outcome-2 given (λ p. p.block) (place r) ws place-later

  -- Any other number exactly when the table is sound, and the block that it holds is answered so.
  allocate-refused-later : (n : ℕ) → 3 ≤ n → {X : Type 0}
      → (TableWords ws → Sound ws → place r (block_of ws) ≡ refused n ↔ X)
      → (allocate_on ws r).0 ≡ refused n ↔ (TableWords ws × Sound ws × X)
  unfolding allocate_on
  allocate-refused-later n l x = outcome-later given (λ p. p.block) (place r) ws place-later n l x

  -- 3 exactly when the table is sound, and the size is 0.
  pub allocate-refused-3 : (allocate_on ws r).0 ≡ refused 3 ↔ (TableWords ws × Sound ws × (r.size ≡ 0))
  allocate-refused-3 = allocate-refused-later 3 (omega arith) (λ t s. refused-3 r (block_of ws))

  module _ (w : Words r) where
    -- 4 exactly when the table is sound, the size is not 0, and the alignment has not exactly one bit set.
    pub allocate-refused-4 : (allocate_on ws r).0 ≡ refused 4
        ↔ (TableWords ws × Sound ws × ((1 ≤ r.size) × (Pow64 r.alignment → ⊥)))
    allocate-refused-4 = allocate-refused-later 4 (omega arith) (λ t s. refused-4 r (block_of ws) w)

    -- 5 exactly when table, size and alignment are in order, and the granularity has not exactly one bit set.
    pub allocate-refused-5 : (allocate_on ws r).0 ≡ refused 5
        ↔ (TableWords ws × Sound ws × ((1 ≤ r.size) × Pow64 r.alignment × (Pow64 r.granularity → ⊥)))
    allocate-refused-5 = allocate-refused-later 5 (omega arith) (λ t s. refused-5 r (block_of ws) w)

    -- 6 exactly when all of these are in order, and the kind is not 1 or 2.
    pub allocate-refused-6 : (allocate_on ws r).0 ≡ refused 6
        ↔ (TableWords ws × Sound ws
        × ((1 ≤ r.size) × Pow64 r.alignment × Pow64 r.granularity × (r.kind ≢ 1) × (r.kind ≢ 2)))
    allocate-refused-6 = allocate-refused-later 6 (omega arith) (λ t s. refused-6 r (block_of ws) w)

    -- 7 exactly when the table is sound, the request well formed, and no free chunk has room for it.
    pub allocate-refused-7 : (allocate_on ws r).0 ≡ refused 7
        ↔ (TableWords ws × Sound ws × (WellFormed r × ((k o : ℕ) → RoomAt r ws k o → ⊥)))
    allocate-refused-7 =
        allocate-refused-later 7 (omega arith)
        (λ t s.
        let a = refused-7 r w (block_of ws) (table-known ws t s).block in
        let b = no-room-words ws t s r in
        (λ e. let q = a.0 e in (q.0, b.0 q.1), λ q. a.1 (q.0, b.1 q.1)))

    -- 8 exactly when these are so, a chunk is to be split, and the next id is 2^64 - 1.
    pub allocate-refused-8 : (allocate_on ws r).0 ≡ refused 8
        ↔ (TableWords ws × Sound ws × (WellFormed r × SplitsAt r ws × (next_id ws ≡ no_id)))
    unfolding block_of
    allocate-refused-8 =
        allocate-refused-later 8 (omega arith)
        (λ t s.
        let a = refused-8 r w (block_of ws) (table-known ws t s).block in
        let b = splits-words ws t s r in
        (λ e. let q = a.0 e in (q.0, b.0 q.1, q.2), λ q. a.1 (q.0, b.1 q.1, q.2)))

    -- 9 exactly when these are so, a chunk is to be split, the next id is not that, and every slot is used.
    pub allocate-refused-9 : (allocate_on ws r).0 ≡ refused 9
        ↔ (TableWords ws × Sound ws
        × (WellFormed r × SplitsAt r ws × (next_id ws ≢ no_id) × ((k : ℕ) → Slot ws k → Used ws k)))
    unfolding block_of
    allocate-refused-9 =
        allocate-refused-later 9 (omega arith)
        (λ t s.
        let a = refused-9 r w (block_of ws) (table-known ws t s).block in
        let b = splits-words ws t s r in
        let c = all-used-words ws t s in (
          λ e. let q = a.0 e in (q.0, b.0 q.1, q.2, c.0 q.3),
          λ q. a.1 (q.0, b.1 q.1, q.2, c.1 q.3),
        ))

    -- Accepted exactly when the table is sound, the request is well formed, and it is told its best place and the id there.
    pub allocate-accepted : (g : Given) → (allocate_on ws r).0 ≡ accepted g
        ↔ (TableWords ws × Sound ws × (WellFormed r × PlacedAt r ws g))
    unfolding allocate_on
    allocate-accepted g = (
      λ e.
          let a = outcome-accepted given (λ p. p.block) (place r) ws g e in
          let h = (no_fault_words r w).0 ((no_fault r).1 (accepted-formed r (block_of ws) a.2.0 a.2.1)) in
          (a.0, a.1, (h, room_accepted r h ws g e)),
      λ q. placed-accepted r q.2.0 ws q.0 q.1 g q.2.1,
    )

  -- No other number than 1 to 9 is given.
  pub allocate-numbers : (n : ℕ) → (allocate_on ws r).0 ≡ refused n → (1 ≤ n) × (n ≤ 9)
  unfolding allocate_on
  allocate-numbers n e =
      outcome-range given (λ p. p.block) (place r) ws place-later (λ n. (1 ≤ n) × (n ≤ 9)) (omega arith) (omega arith)
      (λ m q. omega (arith, refused-range r (block_of ws) m q)) n e

-- a call that is refused with 10 exactly when no chunk is live under the id
module _ (f : Block → Reply Block) (id : ℕ)
    (no : (b : Block) (n : ℕ) → f b ≡ refused n ↔ ((n ≡ 10) × NoneLive id b))
    (yes : (b after : Block) → f b ≡ accepted after → (z : Spot) × LiveIn id b z) (ws : List ℕ) where
  abbrev change : Reply (Unit {0}) × List ℕ
  change = changes ws (on_table f (decode ws))

  own : (b : Block) (n : ℕ) → f b ≡ refused n → 3 ≤ n
  own b n e = omega (arith, ((no b n).0 e).0)

  change-1 : change.0 ≡ refused 1 ↔ (TableWords ws → ⊥)
  change-1 = outcome-1 (λ b. tt) (λ b. b) f ws own

  change-2 : change.0 ≡ refused 2 ↔ (TableWords ws × (Sound ws → ⊥))
  change-2 = outcome-2 (λ b. tt) (λ b. b) f ws own

  change-10 : change.0 ≡ refused 10 ↔ (TableWords ws × Sound ws × NoLiveSlot ws id)
  change-10 =
      outcome-later (λ b. tt) (λ b. b) f ws own 10 (omega arith)
      (λ t s.
      let k = none-live-words ws t s id in
      (λ e. k.0 ((no (block_of ws) 10).0 e).1, λ h. (no (block_of ws) 10).1 (refl, k.1 h)))

  change-numbers : (n : ℕ) → change.0 ≡ refused n → (n ≡ 1) ⊎ ((n ≡ 2) ⊎ (n ≡ 10))
  change-numbers =
      outcome-range (λ b. tt) (λ b. b) f ws own (λ n. (n ≡ 1) ⊎ ((n ≡ 2) ⊎ (n ≡ 10)))
      (inl refl) (inr (inl refl)) (λ n e. inr (inr ((no (block_of ws) n).0 e).0))

  change-accepted : change.0 ≡ accepted tt ↔ (TableWords ws × Sound ws × ((k : ℕ) × LiveSlot ws id k))
  change-accepted = (
    λ e.
        let a = outcome-accepted (λ b. tt) (λ b. b) f ws tt e in
        let z = yes (block_of ws) a.2.0 a.2.1 in
        let i = spot-stands ws a.0 a.1 z.0 z.1.cut in
        (a.0, a.1, (z.0.chunk.slot, (i.used, i.id ∙ z.1.named, λ q. z.1.live (sym i.kind ∙ q)))),
    λ h. answer h.0 h.1 h.2.0 h.2.1 (f (block_of ws)) refl,
  )
    where
      answer : TableWords ws → Sound ws → (k : ℕ) → LiveSlot ws id k → (a : Reply Block) → f (block_of ws) ≡ a
          → change.0 ≡ accepted tt
      answer t s k l (accepted b) e = ap (λ (a : Reply Block). (changes ws a).0) (sound-answered f ws t s ∙ e)
      answer t s k l (refused n) e =
          absurd (l.2 ((none-live-words ws t s id).0 ((no (block_of ws) n).0 e).1 k l.0 l.1))

module _ (ws : List ℕ) (id : ℕ) where
  freed-one : (b after : Block) → release id b ≡ accepted after → (z : Spot) × LiveIn id b z
  freed-one b after e = released id b (λ a. (z : Spot) × LiveIn id b z) after e (λ z l. (z, l))

  -- A refused free keeps the words.
  pub free-refused-keeps : (n : ℕ) → (free_on ws id).0 ≡ refused n → (free_on ws id).1 ≡ ws
  unfolding free_on
  free-refused-keeps n e = outcome-kept (λ b. tt) (λ b. b) (release id) ws n e

  -- A free gives 1 exactly when the word count is not 4 + 7s.
  pub free-refused-1 : (free_on ws id).0 ≡ refused 1 ↔ (TableWords ws → ⊥)
  unfolding free_on
  free-refused-1 = change-1 (release id) id (release-refused id) freed-one ws

  -- 2 exactly when it is, and the table is not sound.
  pub free-refused-2 : (free_on ws id).0 ≡ refused 2 ↔ (TableWords ws × (Sound ws → ⊥))
  unfolding free_on
  free-refused-2 = change-2 (release id) id (release-refused id) freed-one ws

  -- 10 exactly when the table is sound, and every used slot with the id is a free chunk's.
  pub free-refused-10 : (free_on ws id).0 ≡ refused 10 ↔ (TableWords ws × Sound ws × NoLiveSlot ws id)
  unfolding free_on
  free-refused-10 = change-10 (release id) id (release-refused id) freed-one ws

  -- No other number is given.
  pub free-numbers : (n : ℕ) → (free_on ws id).0 ≡ refused n → (n ≡ 1) ⊎ ((n ≡ 2) ⊎ (n ≡ 10))
  unfolding free_on
  free-numbers n e = change-numbers (release id) id (release-refused id) freed-one ws n e

  -- A free is accepted exactly when the table is sound, and a used slot with the id is a live chunk's.
  pub free-accepted : (free_on ws id).0 ≡ accepted tt ↔ (TableWords ws × Sound ws × ((k : ℕ) × LiveSlot ws id k))
  unfolding free_on
  free-accepted = change-accepted (release id) id (release-refused id) freed-one ws

module _ (ws : List ℕ) (id label : ℕ) where
  renamed-one : (b after : Block) → rename id label b ≡ accepted after → (z : Spot) × LiveIn id b z
  renamed-one b after e = renamed id b (λ a. (z : Spot) × LiveIn id b z) label after e (λ z l. (z, l))

  -- A refused rename keeps the words.
  pub rename-refused-keeps : (n : ℕ) → (rename_on ws id label).0 ≡ refused n → (rename_on ws id label).1 ≡ ws
  unfolding rename_on
  rename-refused-keeps n e = outcome-kept (λ b. tt) (λ b. b) (rename id label) ws n e

  -- A rename gives 1 exactly when the word count is not 4 + 7s.
  pub rename-refused-1 : (rename_on ws id label).0 ≡ refused 1 ↔ (TableWords ws → ⊥)
  unfolding rename_on
  rename-refused-1 = change-1 (rename id label) id (rename-refused id label) renamed-one ws

  -- 2 exactly when it is, and the table is not sound.
  pub rename-refused-2 : (rename_on ws id label).0 ≡ refused 2 ↔ (TableWords ws × (Sound ws → ⊥))
  unfolding rename_on
  rename-refused-2 = change-2 (rename id label) id (rename-refused id label) renamed-one ws

  -- 10 exactly when the table is sound, and every used slot with the id is a free chunk's.
  pub rename-refused-10 : (rename_on ws id label).0 ≡ refused 10 ↔ (TableWords ws × Sound ws × NoLiveSlot ws id)
  unfolding rename_on
  rename-refused-10 = change-10 (rename id label) id (rename-refused id label) renamed-one ws

  -- No other number is given.
  pub rename-numbers : (n : ℕ) → (rename_on ws id label).0 ≡ refused n → (n ≡ 1) ⊎ ((n ≡ 2) ⊎ (n ≡ 10))
  unfolding rename_on
  rename-numbers n e = change-numbers (rename id label) id (rename-refused id label) renamed-one ws n e

  -- A rename is accepted exactly when the table is sound, and a used slot with the id is a live chunk's.
  pub rename-accepted : (rename_on ws id label).0 ≡ accepted tt
      ↔ (TableWords ws × Sound ws × ((k : ℕ) × LiveSlot ws id k))
  unfolding rename_on
  rename-accepted = change-accepted (rename id label) id (rename-refused id label) renamed-one ws
