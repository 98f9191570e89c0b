-- What an accepted request is handed: the whole chunk, or a new left piece of it. Assumes nothing.
use Rattle.std.specs.Prelude.{ℕ, suc, ◌+◌, ◌≤◌, ◌⊎◌, ◌≡◌, refl}
use Rattle.std.proofs.Common.{arith, inl, inr, sym, ap}
use mathlib.Core.List.{◌∷◌, reverse_aux}
use Rattle.laws.specs.Tests.{either}
use Rattle.model.specs.Block.{Chunk, Block, Spot, first}
use Rattle.model.specs.Placing.{Request, Placed, taken_at, taken, whole_of, piece_of, remainder_of, new_slot}
use Rattle.model.specs.Room.{Taken}

-- the chunk is live for the request, under the id that is given back, and its last bytes are the request's
pub record Live (r : Request) (p : Placed) (begin : ℕ) (c : Chunk) : Type 0 where
  pub id : c.id ≡ p.id
  pub kind : c.kind ≡ r.kind
  pub label : c.label ≡ r.label
  pub above : begin ≤ p.offset
  pub end : p.offset + r.size ≡ begin + c.size

-- the chunk of z becomes live in its own slot, under its own id, and no id is spent
pub record Whole (r : Request) (b : Block) (z : Spot) (p : Placed) : Type 0 where
  pub chunk : Chunk
  pub chunks : p.block.chunks ≡ reverse_aux z.left (chunk ∷ z.right)
  pub live : Live r p (first z) chunk
  pub id : chunk.id ≡ z.chunk.id
  pub slot : chunk.slot ≡ z.chunk.slot
  pub size : chunk.size ≡ z.chunk.size
  pub next : p.block.next ≡ b.next

-- the chunk of z is split: the new left piece is live under the new id, and the remainder keeps the old id and slot
pub record Split (r : Request) (b : Block) (z : Spot) (p : Placed) : Type 0 where
  pub piece : Chunk
  pub remainder : Chunk
  pub chunks : p.block.chunks ≡ reverse_aux z.left (piece ∷ remainder ∷ z.right)
  pub live : Live r p (first z) piece
  pub id : piece.id ≡ b.next
  pub slot : piece.slot ≡ new_slot b
  pub next : p.block.next ≡ suc b.next
  pub old_id : remainder.id ≡ z.chunk.id
  pub old_slot : remainder.slot ≡ z.chunk.slot
  pub free : remainder.kind ≡ 0
  pub unnamed : remainder.label ≡ 0
  pub sizes : piece.size + remainder.size ≡ z.chunk.size
  pub rest : 1 ≤ remainder.size

-- Where padding and size come to the chunk's size it is handed out whole, and where they come to less it is split.
pub handed : (r : Request) (b : Block) (p : Placed) (t : Taken r b p) → Whole r b t.spot p ⊎ Split r b t.spot p
unfolding taken_at
handed r b p t =
    let z = t.spot in
    let m = t.best.room in
    let e = t.offset in
    let above = m.above in
    let below = m.below in
    either (Whole r b z p ⊎ Split r b z p) (taken r z) z.chunk.size
    (λ l. let q = t.part l in inr (record {
      piece = piece_of r (new_slot b) b.next (taken r z);
      remainder = remainder_of z.chunk (taken r z);
      chunks = ap (λ (x : Block). x.chunks) q.1;
      live = record { id = sym q.0; kind = refl; label = refl; above = above; end = omega arith };
      id = refl;
      slot = refl;
      next = ap (λ (x : Block). x.next) q.1;
      old_id = refl;
      old_slot = refl;
      free = refl;
      unnamed = refl;
      sizes = omega arith;
      rest = omega arith;
    }))
    (λ l. let q = t.whole (omega arith) in inl (record {
      chunk = whole_of r z.chunk;
      chunks = ap (λ (x : Block). x.chunks) q.1;
      live = record { id = sym q.0; kind = refl; label = refl; above = above; end = omega arith };
      id = refl;
      slot = refl;
      size = refl;
      next = ap (λ (x : Block). x.next) q.1;
    }))
