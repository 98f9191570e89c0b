-- The chunks of the block that a sound table holds, by slot. Assumes nothing.
use Rattle.std.specs.Prelude.{ℕ, ◌≤◌, true, List, [], ◌∷◌, ◌↔◌, ◌≡◌, refl}
use mathlib.Core.List.Memᴰ
use Rattle.std.proofs.Common.{sym, ◌∙◌}
use Rattle.laws.specs.Cuts.{from-right}
use Rattle.laws.specs.Lists.{All, all_at}
use Rattle.model.specs.Block.{Chunk, Spot, first}
use Rattle.model.specs.Choose.{Cut}
use Rattle.model.proofs.Choose.{cut-of_spot, spot-of_cut, all_spots}
use Rattle.model.specs.NoneLive.{NoneLive}
use Rattle.model.specs.Slots.{Used as UsedBy}
use Rattle.table.specs.Layout.{Slot, id_at, size_at, first_byte_at, kind_at, label_at, next_at, previous_at}
use Rattle.words.specs.Words.{slot_of, block_of, sound}
use Rattle.words.specs.Soundness.{Used, Sound}
use Rattle.words.specs.Written.{Known}
use Rattle.words.proofs.Written.{known}
use Rattle.words.proofs.Checked.{sound-exactly}
use Rattle.words.specs.Spots.{InSlot}
use Rattle.words.proofs.Spots.{sound-spot, in_words, used-spot, spot-used}
use Rattle.opening.specs.Looked.{TableWords, table_exactly}

-- the chunk of z, with its neighbours, stands in slot k
pub record Standing (ws : List ℕ) (z : Spot) (k : ℕ) : Type 0 where
  pub cut : Cut (block_of ws).chunks z
  pub slot : z.chunk.slot ≡ k
  pub used : Used ws k
  pub id : id_at ws k ≡ z.chunk.id
  pub size : size_at ws k ≡ z.chunk.size
  pub first : first_byte_at ws k ≡ first z
  pub kind : kind_at ws k ≡ z.chunk.kind
  pub label : label_at ws k ≡ z.chunk.label
  pub next : next_at ws k ≡ slot_of z.right
  pub previous : previous_at ws k ≡ slot_of z.left

module _ (ws : List ℕ) (t : TableWords ws) (s : Sound ws) where
  is-sound : sound ws ≡ true
  is-sound = (sound-exactly ws ((table_exactly ws).1 t)).1 s

  -- What is known of such words.
  pub table-known : Known ws
  table-known = known ws is-sound

  stands : (z : Spot) (k : ℕ) → InSlot ws k z → Standing ws z k
  stands z k h =
      let r = in_words h in
      record {
        cut = h.cut;
        slot = h.slot;
        used = spot-used ws is-sound k z h;
        id = r.id;
        size = r.size;
        first = r.begins;
        kind = r.kind;
        label = r.label;
        next = r.next;
        previous = r.previous;
      }

  -- Each chunk stands in its slot.
  pub spot-stands : (z : Spot) → Cut (block_of ws).chunks z → Standing ws z z.chunk.slot
  spot-stands z cut = stands z z.chunk.slot (sound-spot ws is-sound z cut)

  -- And each used slot has a chunk that stands there.
  pub slot-holds : (k : ℕ) → Used ws k → (z : Spot) × Standing ws z k
  slot-holds k u = let p = used-spot ws is-sound k u in (p.0, stands p.0 k p.1)

  -- What holds of every used slot's chunk holds of every chunk, and the other way round.
  pub every-chunk : (P : Chunk → Type 0) → ((z : Spot) (k : ℕ) → Standing ws z k → P z.chunk) ↔ All P (block_of ws).chunks
  every-chunk P =
      let cs = (block_of ws).chunks in
      let a = all_spots P [] cs in (
        λ f. a.0 (λ z m. f z z.chunk.slot (spot-stands z (cut-of_spot cs z m))),
        λ h z k i. a.1 h z (spot-of_cut cs z i.cut),
      )

  -- No chunk is live under the id exactly when every used slot with the id is a free chunk's.
  pub none-live-words : (id : ℕ) → NoneLive id (block_of ws)
      ↔ ((k : ℕ) → Used ws k → id_at ws k ≡ id → kind_at ws k ≡ 0)
  none-live-words id =
      let a = every-chunk (λ c. c.id ≡ id → c.kind ≡ 0) in (
        λ h k u e. let p = slot-holds k u in p.1.kind ∙ a.1 h p.0 k p.1 (sym p.1.id ∙ e),
        λ f. a.0 (λ z k i e. sym i.kind ∙ f k i.used (i.id ∙ e)),
      )

  -- Every slot has a chunk exactly when every slot is used.
  pub all-used-words : ((k : ℕ) → 1 ≤ k → k ≤ (block_of ws).slots → UsedBy k (block_of ws).chunks)
      ↔ ((k : ℕ) → Slot ws k → Used ws k)
  unfolding block_of
  all-used-words =
      let cs = (block_of ws).chunks in
      let a = every-chunk (λ c. Used ws c.slot) in (
        λ f k l.
            let u = f k l.0 l.1 in
            rw u.2 at (all_at (λ c. Used ws c.slot) cs (a.0 (λ z j i. rw (← i.slot) at i.used)) u.0 u.1),
        λ f k a c.
            let p = slot-holds k (f k (a, c)) in
            let z = p.0 in
            let m = from-right z.left (z.chunk ∷ z.right) z.chunk (Memᴰ.head refl) in
            (z.chunk, rw p.1.cut at m, p.1.slot),
      )
