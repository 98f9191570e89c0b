-- What an accepted request leaves in the slots of a table. Theorems. Assumes nothing.
use Rattle.std.specs.Prelude.{ℕ, ◌+◌, ◌-◌, ◌≤◌, ◌<◌, ◌⊎◌, ◌≡◌}
use native.Mathlib.Omega.{arith}
use mathlib.Core.List.{List, [], ◌∷◌, reverse_aux}
use Rattle.std.proofs.Common.{inl, inr, ◌∙◌}
use Rattle.std.proofs.Math.Option.{some}
use Rattle.std.proofs.Math.Path.{refl, sym, subst}
use Rattle.laws.specs.Lists.{all_at}
use Rattle.laws.specs.Reply.{accepted, not_refused}
use Rattle.laws.specs.Tests.{either}
use Rattle.model.specs.Block.{Spot, total, first}
use Rattle.model.proofs.Kept.{place-keeps}
use Rattle.model.specs.Placing.{Request, Placed, offset_in, taken_at, taken, new_slot, take_whole, split_off, whole_of, piece_of, remainder_of, place_in, place}
use Rattle.model.specs.Put.{piece_in, whole_in}
use Rattle.model.proofs.Put.{answers}
use Rattle.model.specs.Requests.{WellFormed}
use Rattle.model.proofs.Room.{place_found}
use Rattle.model.proofs.Slots.{new_slot_lem}
use Rattle.model.specs.Soundness.{Sound as SoundBlock}
use Rattle.table.specs.Layout.{next_id, size_at, first_byte_at}
use Rattle.words.specs.Words.{encode, block_of}
use Rattle.words.specs.Soundness.{Used, Sound}
use Rattle.words.proofs.Rows.{encode-slots, encode-head}
use Rattle.opening.specs.Looked.{TableWords}
use Rattle.opening.proofs.Outcomes.{outcome-accepted}
use Rattle.sub_allocator.specs.Answers.{Given}
use Rattle.placing.specs.Placing.{given, allocate_on}
use Rattle.block.specs.Entries.{Tells, LowestEmpty}
use Rattle.block.specs.ReplacedOnWords.{TableOf, table_of, entry_of, NoneAt, standing_tells, cut_stands, none-empty, rest_same, in_place, one-tells, one-others}
use Rattle.block.specs.RoomOnWords.{BestAt}
use Rattle.block.proofs.RoomOnWords.{best-words, room_accepted}
use Rattle.block.specs.SlotsOnWords.{Standing, table-known, slot-holds, every-chunk}
use Rattle.block.specs.HandedOnWords.{whole_entry, piece_entry, remainder_entry, WholeAt, SplitAt}

-- ---- on the way: the block that the words are of

module _ (r : Request) (h : WellFormed r) (ws : List ℕ) (t : TableWords ws) (s : Sound ws) (k : ℕ) (z : Spot)
    (i : Standing ws z k) (p : Placed) (e : place r (block_of ws) ≡ accepted p) (best : BestAt r ws k p.offset) where
  -- the request is answered in this chunk
  found-there : (p.offset ≡ offset_in r z) × (place r (block_of ws) ≡ place_in r (block_of ws) (some z))
  found-there =
      place_found r h (block_of ws) (table-known ws t s).block z p.offset ((best-words ws t s r z k p.offset i).0 best)

  bytes-there : first z + taken r z ≡ p.offset + r.size
  unfolding taken_at
  bytes-there = omega (arith, found-there.0, i.first, best.room.above)

  -- which of the two answers it is
  answer-there : (P : Placed → Type 0)
      → (z.chunk.size ≤ taken r z → P (whole_in r z (block_of ws)))
      → (taken r z < z.chunk.size → new_slot (block_of ws) ≤ (block_of ws).slots → P (piece_in r z (block_of ws)))
      → P p
  answer-there P whole part =
      let b = block_of ws in
      answers r b (λ a. a ≡ accepted p → P p) z
      (λ l n q. absurd (not_refused (sym q)))
      (λ l n u q. absurd (not_refused (sym q)))
      (λ l n u q. let w : piece_in r z b ≡ p = cc in rw (← w) (part l u))
      (λ l q. let w : whole_in r z b ≡ p = cc in rw (← w) (whole l))
      (sym found-there.1 ∙ e)

module _ (r : Request) (ws : List ℕ) (t : TableWords ws) (s : Sound ws) (k : ℕ) (z : Spot) (i : Standing ws z k) where
  -- the table before
  before : TableOf ws (block_of ws).chunks
  before = record { table = t; sound = s; chunks = refl }

  cut-before : TableOf ws (reverse_aux z.left (z.chunk ∷ z.right))
  cut-before = record { table = t; sound = s; chunks = sym i.cut }

  -- the block once the chunk is handed out whole
  whole_words : SoundBlock (take_whole r z (block_of ws)) → (o : ℕ)
      → WholeAt r ws (encode (take_whole r z (block_of ws))) k record { offset = o; id = z.chunk.id }
  unfolding block_of
  whole_words h o =
      let b = take_whole r z (block_of ws) in
      let told = one-tells t s z i (whole_of r z.chunk) b h refl refl refl refl in
      let same : whole_entry r ws k ≡ in_place ws k (whole_of r z.chunk) =
      (λ j. record {
        id = i.id j;
        size = size_at ws k;
        first = first_byte_at ws k;
        kind = r.kind;
        label = r.label;
      }) in
      record {
        id = sym i.id;
        next = (encode-head b).2;
        chunk = (told.0, told.1 ∙ sym same);
        others = one-others t s z i (whole_of r z.chunk) b h refl refl refl refl;
      }

  -- the lowest empty slot
  new-lowest : new_slot (block_of ws) ≤ (block_of ws).slots → LowestEmpty ws (new_slot (block_of ws))
  unfolding block_of
  new-lowest l =
      let b = block_of ws in
      let n = new_slot_lem b in
      let all = (every-chunk ws t s (λ c. Used ws c.slot)).0 (λ y j x. rw (← x.slot) at x.used) in
      record {
        empty = none-empty before (new_slot b) (n.from, l) (n.empty (omega (arith, l)));
        below = λ j one low.
            let u = n.below j one.0 low in
            rw u.2 at (all_at (λ c. Used ws c.slot) b.chunks all u.0 u.1);
      }

  -- the block once a piece is cut off from it
  split_words : SoundBlock (split_off r z (block_of ws)) → new_slot (block_of ws) ≤ (block_of ws).slots → (o : ℕ)
      → first z ≤ o → first z + taken r z ≡ o + r.size → taken r z < z.chunk.size
      → SplitAt r ws (encode (split_off r z (block_of ws))) k record { offset = o; id = next_id ws }
  unfolding block_of
  split_words h l o above taken-to part =
      let n = new_slot (block_of ws) in
      let b = split_off r z (block_of ws) in
      let w = table_of b h in
      let c = piece_of r n (next_id ws) (taken r z) in
      let d = remainder_of z.chunk (taken r z) in
      let left = z.left in
      let right = z.right in
      let tells-c = standing_tells (cut_stands w (record { left = left; chunk = c; right = d ∷ right }) refl) in
      let tells-d = standing_tells (cut_stands w (record { left = c ∷ left; chunk = d; right = right }) refl) in
      let piece-size : o - first_byte_at ws k + r.size ≡ taken r z = omega (arith, i.first) in
      let rest-size : first_byte_at ws k + size_at ws k - (o + r.size) ≡ z.chunk.size - taken r z =
      omega (arith, i.first, i.size) in
      let rest-first : o + r.size ≡ taken r z + total left = omega arith in
      let same-c : piece_entry r ws k o ≡ entry_of (total left) c =
      (λ j. record { id = next_id ws; size = piece-size j; first = i.first j; kind = r.kind; label = r.label }) in
      let same-d : remainder_entry r ws k o ≡ entry_of (taken r z + total left) d =
      (λ j. record { id = i.id j; size = rest-size j; first = rest-first j; kind = 0; label = 0 }) in
      record {
        id = refl;
        next = (encode-head b).2 ∙ (omega arith);
        slot = n;
        lowest = new-lowest l;
        piece = (tells-c.0, tells-c.1 ∙ sym same-c);
        remainder =
            subst (λ (j : ℕ). Tells (encode b) j (remainder_entry r ws k o)) i.slot
            (tells-d.0, tells-d.1 ∙ sym same-d);
        others = λ j f g.
            let m : NoneAt j (d ∷ []) = (λ e. f (sym e ∙ i.slot), tt) in
            let sum : z.chunk.size + 0 ≡ taken r z + (z.chunk.size - taken r z + 0) = omega arith in
            rest_same left (z.chunk ∷ []) (c ∷ d ∷ []) right cut-before w sum (encode-slots b) j m
            (λ e. g (sym e), m);
      }

-- ---- the statements

-- what is left in the slots: the whole chunk handed out where padding and size come to its size, else a piece of it
abbrev Handed : Request → List ℕ → ℕ → List ℕ → Given → Type 0
Handed r ws k ws' g =
    (g.offset + r.size ≡ first_byte_at ws k + size_at ws k → WholeAt r ws ws' k g)
    × (g.offset + r.size < first_byte_at ws k + size_at ws k → SplitAt r ws ws' k g)

module _ (r : Request) (h : WellFormed r) (ws : List ℕ) (g : Given) (e : (allocate_on ws r).0 ≡ accepted g) where
  handed : (k : ℕ) → BestAt r ws k g.offset → Handed r ws k (allocate_on ws r).1 g
  unfolding allocate_on block_of
  handed k best =
      let a = outcome-accepted given (λ p. p.block) (place r) ws g e in
      let t = a.0 in
      let s = a.1 in
      let b = block_of ws in
      let p = a.2.0 in
      let y = slot-holds ws t s k best.room.used in
      let z = y.0 in
      let i = y.1 in
      let there : BestAt r ws k p.offset = subst (λ (x : Given). BestAt r ws k x.offset) (sym a.2.2) best in
      let P : Placed → Type 0 =
      (λ q. SoundBlock q.block → first z ≤ q.offset → first z + taken r z ≡ q.offset + r.size
      → Handed r ws k (encode q.block) (given q)) in
      let left : Handed r ws k (encode p.block) (given p) =
      answer-there r h ws t s k z i p a.2.1 there P
      (λ l w above to. (
        λ q. whole_words r ws t s k z i w (offset_in r z),
        λ q. absurd (omega (arith, i.first, i.size)),
      ))
      (λ l u w above to. (
        λ q. absurd (omega (arith, i.first, i.size)),
        λ q. split_words r ws t s k z i w u (offset_in r z) above to l,
      ))
      (place-keeps b (table-known ws t s).block r p a.2.1) (omega (arith, i.first, there.room.above))
      (bytes-there r h ws t s k z i p a.2.1 there) in
      subst (Handed r ws k (allocate_on ws r).1) a.2.2
      (subst (λ (w : List ℕ). Handed r ws k w (given p)) (sym a.2.3) left)

  -- A request is put into the best chunk for it, in some slot k. Where padding and size come to that chunk's size it is
  -- handed out whole,
  pub allocate-whole : (k : ℕ) → BestAt r ws k g.offset → g.offset + r.size ≡ first_byte_at ws k + size_at ws k
      → WholeAt r ws (allocate_on ws r).1 k g
  allocate-whole k best = (handed k best).0

  -- and where they come to less it is split.
  pub allocate-split : (k : ℕ) → BestAt r ws k g.offset → g.offset + r.size < first_byte_at ws k + size_at ws k
      → SplitAt r ws (allocate_on ws r).1 k g
  allocate-split k best = (handed k best).1

  -- There is such a chunk for every accepted request, and one of the two is so.
  pub allocate-handed : (k : ℕ) × BestAt r ws k g.offset
      × (WholeAt r ws (allocate_on ws r).1 k g ⊎ SplitAt r ws (allocate_on ws r).1 k g)
  allocate-handed =
      let p = room_accepted r h ws g e in
      let k = p.slot in
      let w = handed k p.best in (
        k,
        p.best,
        either _ (g.offset + r.size) (first_byte_at ws k + size_at ws k) (λ l. inr (w.1 l))
            (λ l. inl (w.0 (omega (arith, l, p.best.room.below)))),
      )
