-- Demand 3, its first half, on the words of a sound table: when a request is told 'no room', and where an accepted one is
-- put. Theorems. Assumes nothing.
use Rattle.std.specs.Prelude.{ℕ, ◌+◌, List, [], ◌∷◌, ◌↔◌, ◌≢◌, ◌⊎◌, ◌≡◌, refl}
use Rattle.std.proofs.Common.{arith, inl, inr, ⊎_elim, sym, subst, ◌∙◌}
use Rattle.std.proofs.Math.Logic.Iff
use Rattle.std.proofs.Math.Option.{Option, none, some}
use Rattle.std.proofs.Math.Path.{ap}
use Rattle.laws.specs.Reply.{Reply, accepted, refused}
use Rattle.laws.specs.Tests.{either}
use Rattle.pages.specs.Vulkan.{Resource}
use Rattle.model.specs.Block.{Chunk, Block, Spot, total, no_id}
use Rattle.model.specs.Choose.{Cut}
use Rattle.model.proofs.Effects.{placed-cases}
use Rattle.model.specs.Placing.{Request, Placed, taken_at, chosen, new_slot, place}
use Rattle.model.specs.Put.{Lowest, Choice}
use Rattle.model.specs.Refusals.{Splits}
use Rattle.model.proofs.Refusals.{exact-fit, split-accepted}
use Rattle.model.specs.Requests.{WellFormed}
use Rattle.model.specs.Room.{bytes, Keeps, KeepsBefore, KeepsAfter, Room, Taken}
use Rattle.model.proofs.Room.{choice, no_room, put-best}
use Rattle.model.specs.Slots.{Unused}
use Rattle.model.proofs.Slots.{new_slot_lem}
use Rattle.table.specs.Layout.{Slot, next_id, id_at, size_at, first_byte_at}
use Rattle.words.specs.Words.{slot_of, block_of}
use Rattle.words.specs.Soundness.{Used, Sound}
use Rattle.opening.specs.Calls.{leaves}
use Rattle.sub_allocator.specs.Answers.{Given}
use Rattle.placing.specs.Placing.{given, allocate_on}
use Rattle.opening.specs.Looked.{TableWords}
use Rattle.opening.proofs.Looked.{sound-answered}
use Rattle.opening.proofs.Outcomes.{told-refused, outcome-accepted}
use Rattle.block.specs.SlotsOnWords.{Standing, table-known, spot-stands, slot-holds, every-chunk}
use Rattle.block.specs.RoomOnWords.{bytes_at, bytes_of, RoomAt, BestAt, PlacedAt, SplitsAt}

module _ (ws : List ℕ) (t : TableWords ws) (s : Sound ws) (r : Request) where
  -- ---- room in a slot is room in the chunk that stands there

  keeps-before : (o : ℕ) (left : List Chunk) (c : Chunk) (right : List Chunk)
      → Cut (block_of ws).chunks (record { left = left; chunk = c; right = right })
      → (slot_of left ≢ 0 → Keeps r.granularity (bytes_at ws (slot_of left)) (bytes_of r o)) ↔ KeepsBefore r o left
  keeps-before o [] c right cut = (λ f. tt, λ u n. absurd (n refl))
  keeps-before o (x ∷ left) c right cut =
      let i = spot-stands ws t s (record { left = left; chunk = x; right = c ∷ right }) cut in
      let e : bytes_at ws x.slot ≡ bytes (total left) x.size x.kind =
      (λ j. bytes (i.first j) (i.size j) (i.kind j)) in
      let K : Resource → Type 0 = (λ B. Keeps r.granularity B (bytes_of r o)) in
      (λ f. subst K e (f (λ q. omega (arith, i.used.0.0))), λ h n. subst K (sym e) h)

  keeps-after : (o : ℕ) (left : List Chunk) (c : Chunk) (right : List Chunk)
      → Cut (block_of ws).chunks (record { left = left; chunk = c; right = right })
      → (slot_of right ≢ 0 → Keeps r.granularity (bytes_of r o) (bytes_at ws (slot_of right)))
      ↔ KeepsAfter r o (total left + c.size) right
  keeps-after o left c [] cut = (λ f. tt, λ u n. absurd (n refl))
  keeps-after o left c (x ∷ right) cut =
      let i = spot-stands ws t s (record { left = c ∷ left; chunk = x; right = right }) cut in
      let begin : first_byte_at ws x.slot ≡ total left + c.size = omega (arith, i.first) in
      let e : bytes_at ws x.slot ≡ bytes (total left + c.size) x.size x.kind =
      (λ j. bytes (begin j) (i.size j) (i.kind j)) in
      let K : Resource → Type 0 = (λ B. Keeps r.granularity (bytes_of r o) B) in
      (λ f. subst K e (f (λ q. omega (arith, i.used.0.0))), λ h n. subst K (sym e) h)

  module _ (z : Spot) (k : ℕ) (i : Standing ws z k) where
    -- There is room at an offset in a slot exactly when there is in its chunk.
    pub room-words : (o : ℕ) → RoomAt r ws k o ↔ Room r (block_of ws) z o
    room-words o =
        let B : ℕ → Type 0 = (λ p. p ≢ 0 → Keeps r.granularity (bytes_at ws p) (bytes_of r o)) in
        let A : ℕ → Type 0 = (λ p. p ≢ 0 → Keeps r.granularity (bytes_of r o) (bytes_at ws p)) in
        let b = keeps-before o z.left z.chunk z.right i.cut in
        let a = keeps-after o z.left z.chunk z.right i.cut in (
          λ m. record {
            cut = i.cut;
            free = sym i.kind ∙ m.free;
            aligned = m.aligned;
            above = omega (arith, m.above, i.first);
            below = omega (arith, m.below, i.first, i.size);
            before = b.0 (subst B i.previous m.before);
            after = a.0 (subst A i.next m.after);
          },
          λ m. record {
            used = i.used;
            free = i.kind ∙ m.free;
            aligned = m.aligned;
            above = omega (arith, m.above, i.first);
            below = omega (arith, m.below, i.first, i.size);
            before = subst B (sym i.previous) (b.1 m.before);
            after = subst A (sym i.next) (a.1 m.after);
          },
        )

  -- So there is room in some slot exactly when there is in some chunk.
  pub no-room-words : ((z : Spot) (o : ℕ) → Room r (block_of ws) z o → ⊥) ↔ ((k o : ℕ) → RoomAt r ws k o → ⊥)
  no-room-words = (
    λ f k o m. let p = slot-holds ws t s k m.used in f p.0 o ((room-words p.0 k p.1 o).0 m),
    λ f z o m. f z.chunk.slot o ((room-words z z.chunk.slot (spot-stands ws t s z m.cut) o).1 m),
  )

  -- And the best place in the words is the best place in the block.
  pub best-words : (z : Spot) (k o : ℕ) → Standing ws z k → BestAt r ws k o ↔ Lowest (Room r (block_of ws)) z o
  best-words z k o i = (
    λ h. record {
      room = (room-words z k i o).0 h.room;
      lowest = λ p m. h.lowest p ((room-words z k i p).1 m);
      smallest = λ y p m.
          let j = spot-stands ws t s y m.cut in
          omega (arith, i.size, j.size, h.smallest y.chunk.slot p ((room-words y _ j p).1 m));
      earliest = λ y p m e.
          let j = spot-stands ws t s y m.cut in
          let q : size_at ws k ≡ size_at ws y.chunk.slot = i.size ∙ e ∙ sym j.size in
          omega (arith, i.first, j.first, h.earliest y.chunk.slot p ((room-words y _ j p).1 m) q);
    },
    λ h. record {
      room = (room-words z k i o).1 h.room;
      lowest = λ p m. h.lowest p ((room-words z k i p).0 m);
      smallest = λ l p m.
          let j = slot-holds ws t s l m.used in
          omega (arith, i.size, j.1.size, h.smallest j.0 p ((room-words j.0 l j.1 p).0 m));
      earliest = λ l p m e.
          let j = slot-holds ws t s l m.used in
          let q : z.chunk.size ≡ j.0.chunk.size = sym i.size ∙ e ∙ j.1.size in
          omega (arith, i.first, j.1.first, h.earliest j.0 p ((room-words j.0 l j.1 p).0 m) q);
    },
  )

  -- So a chunk is to be split in the words exactly when it is in the block.
  pub splits-words : Splits r (block_of ws) ↔ SplitsAt r ws
  splits-words = (
    λ h.
        let z = h.spot in
        let i = spot-stands ws t s z h.best.room.cut in
        record {
          slot = z.chunk.slot;
          offset = h.offset;
          best = (best-words z z.chunk.slot h.offset i).1 h.best;
          larger = omega (arith, h.larger, i.first, i.size);
        },
    λ h.
        let p = slot-holds ws t s h.slot h.best.room.used in
        record {
          spot = p.0;
          offset = h.offset;
          best = (best-words p.0 h.slot h.offset p.1).0 h.best;
          larger = omega (arith, h.larger, p.1.first, p.1.size);
        },
  )

-- ---- the demand

module _ (r : Request) (h : WellFormed r) (ws : List ℕ) (t : TableWords ws) (s : Sound ws) where
  -- A well-formed request on a sound table is told 'no room', refusal 7, exactly when no free chunk has room for it, at
  -- any offset.
  pub room-refused : (allocate_on ws r).0 ≡ refused 7 ↔ ((k o : ℕ) → RoomAt r ws k o → ⊥)
  unfolding allocate_on
  room-refused =
      Iff.trans (rw (sound-answered (place r) ws t s) (told-refused given (λ p. p.block) ws (place r (block_of ws)) 7))
      (Iff.trans (no_room r h (block_of ws) (table-known ws t s).block) (no-room-words ws t s r))

  -- There is no room, or there is a best place.
  pub some-best : ((k o : ℕ) → RoomAt r ws k o → ⊥) ⊎ ((k o : ℕ) × BestAt r ws k o)
  some-best = on (chosen r (block_of ws)) (choice r h (block_of ws) (table-known ws t s).block)
    where
      on : (c : Option Spot) → Choice (Room r (block_of ws)) r c
          → ((k o : ℕ) → RoomAt r ws k o → ⊥) ⊎ ((k o : ℕ) × BestAt r ws k o)
      on none f = inl ((no-room-words ws t s r).0 f)
      on (some z) f =
          let i = spot-stands ws t s z f.room.cut in
          inr (z.chunk.slot, _, (best-words ws t s r z z.chunk.slot _ i).1 f)

  answered : (p : Placed) → place r (block_of ws) ≡ accepted p → (allocate_on ws r).0 ≡ accepted (given p)
  unfolding allocate_on
  answered p e = ap (λ (a : Reply Placed). (leaves given (λ p. p.block) ws a).0) (sound-answered (place r) ws t s ∙ e)

  -- An exact fit is accepted, whatever ids and slots are used up, and has the chunk's own id.
  pub exact-accepted : (k o : ℕ) → BestAt r ws k o → o + r.size ≡ first_byte_at ws k + size_at ws k
      → (allocate_on ws r).0 ≡ accepted record { offset = o; id = id_at ws k }
  exact-accepted k o b e =
      let p = slot-holds ws t s k b.room.used in
      let fit =
      exact-fit r h (block_of ws) (table-known ws t s).block p.0 o ((best-words ws t s r p.0 k o p.1).0 b)
      (omega (arith, p.1.first, p.1.size)) in
      answered _ fit ∙ ap (λ (i : ℕ). accepted record { offset = o; id = i }) (sym p.1.id)

  -- A split is accepted where there is an id and a slot that is not used, and has the next id.
  pub piece-accepted : (x : SplitsAt r ws) → next_id ws ≢ no_id → (j : ℕ) → Slot ws j → (Used ws j → ⊥)
      → (allocate_on ws r).0 ≡ accepted record { offset = x.offset; id = next_id ws }
  unfolding block_of splits-words
  piece-accepted x n j l u =
      let unused : Unused j (block_of ws).chunks =
      (every-chunk ws t s (λ c. c.slot ≢ j)).0 (λ z k i e. u (rw (sym i.slot ∙ e) at i.used)) in
      let split = (splits-words ws t s r).1 x in
      answered _ (split-accepted r h (block_of ws) (table-known ws t s).block split n j l.0 l.1 unused)

  -- What is told so is accepted.
  pub placed-accepted : (g : Given) → PlacedAt r ws g → (allocate_on ws r).0 ≡ accepted g
  placed-accepted g p =
      let k = p.slot in
      let m = p.best.room in
      let told : (i : ℕ) → g.id ≡ i → accepted record { offset = g.offset; id = i } ≡ accepted g =
      (λ i e. ap (λ (j : ℕ). accepted record { offset = g.offset; id = j }) (sym e)) in
      either _ (g.offset + r.size) (first_byte_at ws k + size_at ws k)
      (λ l.
      let q = p.part (λ e. omega (arith, m.above)) in
      let x : SplitsAt r ws = record { slot = k; offset = g.offset; best = p.best; larger = l } in
      piece-accepted x q.1 q.2.0 q.2.1 q.2.2 ∙ told _ q.0)
      (λ l.
      exact-accepted k g.offset p.best (omega (arith, m.below))
      ∙ told _ (p.whole (omega (arith, m.above, m.below))))

-- An accepted request is put where there is room: at the lowest offset of the smallest chunk that has room, and of chunks
-- of that size in the one at the lowest address. Where it fills that chunk it has the chunk's own id, else the next id.
pub room_accepted : (r : Request) → WellFormed r → (ws : List ℕ) (g : Given) → (allocate_on ws r).0 ≡ accepted g
    → PlacedAt r ws g
unfolding allocate_on block_of taken_at
room_accepted r h ws g e =
    let a = outcome-accepted given (λ p. p.block) (place r) ws g e in
    let t = a.0 in
    let s = a.1 in
    let b = block_of ws in
    let sound = (table-known ws t s).block in
    let p = a.2.0 in
    let k : Taken r b p = put-best r h b sound p a.2.1 in
    let z = k.spot in
    let m = k.best.room in
    let i : Standing ws z z.chunk.slot = spot-stands ws t s z m.cut in
    let last =
    placed-cases r b sound p a.2.1 (λ q. (q.block.next ≡ b.next) ⊎ (b.next ≢ no_id))
    (λ y j w. inl refl) (λ y j l n u. inr n) in
    let placed : PlacedAt r ws (given p) = record {
      slot = z.chunk.slot;
      best = (best-words ws t s r z z.chunk.slot p.offset i).1 k.best;
      whole = λ q. (k.whole (omega (arith, i.size, i.first, k.offset))).0 ∙ sym i.id;
      part = λ q.
          let x = k.part (omega (arith, i.size, i.first, k.offset, m.above, m.below)) in
          let n = new_slot b in
          let free = (every-chunk ws t s (λ c. c.slot ≢ n)).1 ((new_slot_lem b).empty (omega (arith, x.2))) in (
            x.0,
            ⊎_elim (λ y. absurd (omega (arith, ap (λ (y : Block). y.next) x.1))) (λ n. n) last,
            (n, ((new_slot_lem b).from, x.2), λ u. let j = slot-holds ws t s n u in free j.0 n j.1 j.1.slot),
          );
    } in
    subst (PlacedAt r ws) a.2.2 placed
