-- The chunks before and after a slot, read off the words as the page rule takes them. Assumes nothing.
use Rattle.std.specs.Prelude.{◌≡◌, ℕ, zero, suc, ◌+◌, ◌≢◌, List, [], ◌∷◌}
use Rattle.std.proofs.Common.{arith, sym, ap, ◌∙◌}
use Rattle.std.proofs.Math.Path.{refl}
use Rattle.pages.specs.Vulkan.{Resource}
use Rattle.model.specs.Block.{Chunk, Spot, total, first}
use Rattle.model.specs.Placing.{Request, last_of, next_of, chunk_before, chunk_after, offset_at, offset_in}
use Rattle.model.proofs.Put.{next_begins}
use Rattle.table.specs.Layout.{size_at, first_byte_at, kind_at, next_at, previous_at}
use Rattle.words.specs.Words.{slot_of}
use Rattle.words.specs.Spots.{InSlot}
use Rattle.words.proofs.Spots.{in_table, in_words, beside}
use Rattle.search.specs.Held.{HeldIn}

-- the chunk in a slot
abbrev pub resource_at : List ℕ → ℕ → Resource
resource_at ws k = record { offset = first_byte_at ws k; size = size_at ws k; kind = kind_at ws k }

-- the one in a slot, or what stands for none, kind 0, where the slot is 0
abbrev pub resource_or : Resource → List ℕ → ℕ → Resource
resource_or other ws zero = other
resource_or other ws (suc k) = resource_at ws (suc k)

-- the chunk before the one in slot k
unfoldable pub before_at : List ℕ → ℕ → Resource
before_at ws k = resource_or (record { offset = 0; size = 0; kind = 0 }) ws (previous_at ws k)

-- the chunk after it; none stands where this one ends
unfoldable pub after_at : List ℕ → ℕ → Resource
after_at ws k = resource_or (record { offset = first_byte_at ws k + size_at ws k; size = 0; kind = 0 }) ws (next_at ws k)

-- A slot is numbered from 1.
pub resource_some : (other : Resource) (ws : List ℕ) (k : ℕ) → k ≢ 0 → resource_or other ws k ≡ resource_at ws k
resource_some other ws zero n = absurd (n refl)
resource_some other ws (suc k) n = refl

module _ (ws : List ℕ) (k : ℕ) (c : Chunk) where
  -- the neighbours of a chunk are in slots of their own, with their own neighbours
  previous-in : (p : Chunk) (left right : List Chunk) → InSlot ws k (record { left = p ∷ left; chunk = c; right = right })
      → InSlot ws p.slot (record { left = left; chunk = p; right = c ∷ right })
  previous-in p left right h = beside h _ _ refl refl

  next-in : (n : Chunk) (left right : List Chunk) → InSlot ws k (record { left = left; chunk = c; right = n ∷ right })
      → InSlot ws n.slot (record { left = c ∷ left; chunk = n; right = right })
  next-in n left right h = beside h _ _ refl refl

  last-at : (none : Resource) (left right : List Chunk) → none ≡ last_of []
      → InSlot ws k (record { left = left; chunk = c; right = right }) → resource_or none ws (slot_of left) ≡ last_of left
  last-at none [] right e h = e
  last-at none (p ∷ left) right e h =
      let y = previous-in p left right h in
      let w = in_words y in
      resource_some none ws p.slot (λ z. omega (arith, (in_table ws p.slot _ y).0))
      ∙ (λ i. record { offset = w.begins i; size = w.size i; kind = w.kind i })

  next-at : (none : Resource) (address : ℕ) (left right : List Chunk) → none ≡ next_of address []
      → c.size + total left ≡ address
      → InSlot ws k (record { left = left; chunk = c; right = right }) → resource_or none ws (slot_of right) ≡ next_of address right
  next-at none address left [] e a h = e
  next-at none address left (n ∷ right) e a h =
      let y = next-in n left right h in
      let w = in_words y in
      let o : first_byte_at ws n.slot ≡ address = w.begins ∙ a in
      resource_some none ws n.slot (λ z. omega (arith, (in_table ws n.slot _ y).0))
      ∙ (λ i. record { offset = o i; size = w.size i; kind = w.kind i })

  held-left : (left right : List Chunk) → InSlot ws k (record { left = left; chunk = c; right = right }) → slot_of left ≢ 0
      → HeldIn ws (slot_of left)
  held-left [] right h n = absurd (n refl)
  held-left (p ∷ left) right h n = (_, previous-in p left right h)

  held-right : (left right : List Chunk) → InSlot ws k (record { left = left; chunk = c; right = right }) → slot_of right ≢ 0
      → HeldIn ws (slot_of right)
  held-right left [] h n = absurd (n refl)
  held-right left (n ∷ right) h m = (_, next-in n left right h)

module _ (ws : List ℕ) (k : ℕ) (z : Spot) (h : InSlot ws k z) where
  -- The chunks before and after slot k are those of the chunk in it.
  pub before-chunk : before_at ws k ≡ chunk_before z
  unfolding before_at
  before-chunk = rw (in_words h).previous (last-at ws k z.chunk _ z.left z.right refl h)

  pub after-chunk : after_at ws k ≡ chunk_after z
  unfolding after_at
  after-chunk =
      let w = in_words h in
      (λ i. resource_or (record { offset = w.begins i + w.size i; size = 0; kind = 0 }) ws (w.next i))
      ∙ next-at ws k z.chunk _ (first z + z.chunk.size) z.left z.right refl (omega arith) h

  -- So the offset that is found by the words is the one in that chunk.
  pub offset-chunk : (r : Request) → offset_at r (first_byte_at ws k) (before_at ws k) ≡ offset_in r z
  offset-chunk r = λ i. offset_at r ((in_words h).begins i) (before-chunk i)

-- The slots named by "previous" and "next" hold chunks.
module _ (ws : List ℕ) (k : ℕ) (h : HeldIn ws k) (j : ℕ) where
  pub held-previous : j ≡ previous_at ws k → j ≢ 0 → HeldIn ws j
  held-previous e n =
      let q = e ∙ (in_words h.1).previous in
      rw q (held-left ws k h.0.chunk h.0.left h.0.right h.1 (λ z. n (q ∙ z)))

  pub held_next : j ≡ next_at ws k → j ≢ 0 → HeldIn ws j
  held_next e n =
      let q = e ∙ (in_words h.1).next in
      rw q (held-right ws k h.0.chunk h.0.left h.0.right h.1 (λ z. n (q ∙ z)))

-- The chunk after begins where this one ends.
pub next_first : (ws : List ℕ) (k : ℕ) → HeldIn ws k → next_at ws k ≢ 0
    → first_byte_at ws (next_at ws k) ≡ first_byte_at ws k + size_at ws k
unfolding after_at
next_first ws k (z, h) n =
    let w = in_words h in
    let e : first_byte_at ws (next_at ws k) ≡ (chunk_after z).offset =
    ap (λ (x : Resource). x.offset) (sym (resource_some _ ws (next_at ws k) n) ∙ after-chunk ws k z h) in
    omega (arith, next_begins (first z + z.chunk.size) z.right, w.begins, w.size)
