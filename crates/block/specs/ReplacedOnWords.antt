-- Tables whose chunks differ between two of them alone: what their slots tell of all the others. Assumes nothing.
use Rattle.std.specs.Prelude.{ℕ, ◌+◌, ◌↔◌, ◌≢◌, ◌≡◌, refl}
use Rattle.std.proofs.Common.{arith, ⊎_elim, sym, ap, subst, ◌∙◌}
use mathlib.Core.List.{List, [], ◌∷◌, ◌++◌, reverse_aux}
use Rattle.laws.specs.Cuts.{cut-pairs}
use Rattle.laws.specs.Every.{cases, clash}
use Rattle.laws.specs.Lists.{All, Pairwise, all_map}
use Rattle.laws.specs.Members.{same, same-eq, same_refl}
use Rattle.model.specs.Block.{Chunk, Block, Spot, total, first}
use Rattle.model.specs.Choose.{Cut}
use Rattle.model.specs.Effects.{chunks_of, replaced}
use Rattle.model.specs.Soundness.{Sound as SoundBlock, DifferentSlots}
use Rattle.table.specs.Layout.{Slot, slot_count, size_at, first_byte_at, row, empty_row}
use Rattle.words.specs.Words.{encode, block_of}
use Rattle.words.specs.Soundness.{Used, Sound}
use Rattle.words.proofs.Checked.{decode-exactly}
use Rattle.words.proofs.Laid.{sound-laid, block_back}
use Rattle.words.proofs.Linked.{row_at-none}
use Rattle.words.proofs.Rows.{encode-slots}
use Rattle.words.proofs.Spots.{slot_unused}
use Rattle.words.proofs.Written.{decode-encode}
use Rattle.opening.specs.Looked.{TableWords, table_exactly}
use Rattle.block.specs.Entries.{Entry, entry_at, Tells, Empty, Same}
use Rattle.block.specs.SlotsOnWords.{Standing, table-known, spot-stands, slot-holds}

-- ---- what holds of every chunk and of the address where it begins

-- on the left of a cut, the nearest first
abbrev AllLeft : (ℕ → Chunk → Type 0) → List Chunk → Type 0
AllLeft P [] = Unit {0}
AllLeft P (c ∷ left) = P (total left) c × AllLeft P left

-- from an address on
abbrev AllFrom : (ℕ → Chunk → Type 0) → ℕ → List Chunk → Type 0
AllFrom P a [] = Unit {0}
AllFrom P a (c ∷ cs) = P a c × AllFrom P (a + c.size) cs

module _ (P : ℕ → Chunk → Type 0) where
  moved : {a b : ℕ} (cs : List Chunk) → a ≡ b → AllFrom P a cs → AllFrom P b cs
  moved cs e h = subst (λ (n : ℕ). AllFrom P n cs) e h

  cut-from : (left cs : List Chunk) → AllFrom P 0 (reverse_aux left cs) ↔ (AllLeft P left × AllFrom P (total left) cs)
  cut-from [] cs = (λ h. (tt, h), λ h. h.1)
  cut-from (c ∷ left) cs =
      let k = cut-from left (c ∷ cs) in
      let e : total left + c.size ≡ c.size + total left = omega arith in (
        λ h. let m = k.0 h in ((m.1.0, m.0), moved cs e m.1.1),
        λ h. k.1 (h.0.1, (h.0.0, moved cs (sym e) h.1)),
      )

  join-from : (a : ℕ) (mid right : List Chunk)
      → AllFrom P a (mid ++ right) ↔ (AllFrom P a mid × AllFrom P (a + total mid) right)
  join-from a [] right =
      let e : a ≡ a + 0 = omega arith in
      (λ h. (tt, moved right e h), λ h. moved right (sym e) h.1)
  join-from a (c ∷ mid) right =
      let k = join-from (a + c.size) mid right in
      let e : a + c.size + total mid ≡ a + (c.size + total mid) = omega arith in (
        λ h. let m = k.0 h.1 in ((h.0, m.0), moved right e m.1),
        λ h. (h.0.0, k.1 (h.0.1, moved right (sym e) h.1)),
      )

  -- of every cut of a list, and so from its beginning on
  each-cut : (left cs : List Chunk) → ((z : Spot) → Cut (reverse_aux left cs) z → P (first z) z.chunk)
      → AllFrom P (total left) cs
  each-cut left [] f = tt
  each-cut left (c ∷ cs) f =
      let e : c.size + total left ≡ total left + c.size = omega arith in
      (f (record { left = left; chunk = c; right = cs }) refl, moved cs e (each-cut (c ∷ left) cs f))

  at_cut : (cs : List Chunk) → AllFrom P 0 cs → (z : Spot) → Cut cs z → P (first z) z.chunk
  at_cut cs h z cut = ((cut-from z.left (z.chunk ∷ z.right)).0 (rw cut h)).1.0

  -- what says nothing of the chunks between stays where others of as many bytes take their place
  swapped : (left mid mid' right : List Chunk) → total mid ≡ total mid' → ((a : ℕ) → AllFrom P a mid')
      → AllFrom P 0 (reverse_aux left (mid ++ right)) → AllFrom P 0 (reverse_aux left (mid' ++ right))
  swapped left mid mid' right e n h =
      let k = (cut-from left (mid ++ right)).0 h in
      let m = (join-from (total left) mid right).0 k.1 in
      let q : total left + total mid ≡ total left + total mid' = ap (λ (n : ℕ). total left + n) e in
      (cut-from left (mid' ++ right)).1 (k.0, (join-from (total left) mid' right).1 (n (total left), moved right q m.1))

-- ---- a sound table, and the chunks that it holds

pub record TableOf (ws : List ℕ) (cs : List Chunk) : Type 0 where
  pub table : TableWords ws
  pub sound : Sound ws
  pub chunks : (block_of ws).chunks ≡ cs

-- A sound block is written as one.
pub table_of : (b : Block) → SoundBlock b → TableOf (encode b) b.chunks
table_of b h =
    let d = (decode-exactly (encode b)).0 (b, decode-encode b h) in
    record {
      table = (table_exactly (encode b)).0 d.0;
      sound = d.1;
      chunks = ap (λ (x : Block). x.chunks) (block_back b (sound-laid b h));
    }

-- a chunk that begins at an address, as its slot tells it
abbrev pub entry_of : ℕ → Chunk → Entry
entry_of a c = record { id = c.id; size = c.size; first = a; kind = c.kind; label = c.label }

-- A slot tells of the chunk that stands there.
pub standing_tells : {ws : List ℕ} {z : Spot} {k : ℕ} → Standing ws z k → Tells ws k (entry_of (first z) z.chunk)
standing_tells i =
    (i.used, λ j. record { id = i.id j; size = i.size j; first = i.first j; kind = i.kind j; label = i.label j })

module _ {ws : List ℕ} {cs : List Chunk} (h : TableOf ws cs) where
  -- Each chunk stands in its slot,
  pub cut_stands : (z : Spot) → Cut cs z → Standing ws z z.chunk.slot
  cut_stands z cut = spot-stands ws h.table h.sound z (cut ∙ sym h.chunks)

  -- and in each used slot one.
  pub used-cut : (k : ℕ) → Used ws k → (z : Spot) × Cut cs z × Standing ws z k
  used-cut k u = let p = slot-holds ws h.table h.sound k u in (p.0, p.1.cut ∙ h.chunks, p.1)

  -- A slot that no chunk has is empty.
  pub none-empty : (k : ℕ) → Slot ws k → All (λ c. c.slot ≢ k) cs → Empty ws k
  unfolding block_of
  none-empty k l a =
      let n = slot_unused k (block_of ws).chunks (rw h.chunks a) in
      (l, (table-known ws h.table h.sound).rows k l.0 l.1 ∙ row_at-none 0 0 (block_of ws).chunks k n)

  -- No other chunk has the slot of a chunk.
  pub others-elsewhere : (z : Spot) → Cut cs z
      → All (λ c. c.slot ≢ z.chunk.slot) z.left × All (λ c. c.slot ≢ z.chunk.slot) z.right
  others-elsewhere z cut =
      let a : Pairwise DifferentSlots (block_of ws).chunks = (table-known ws h.table h.sound).block.apart in
      let p : Pairwise DifferentSlots (reverse_aux z.left (z.chunk ∷ z.right)) = rw (cut ∙ sym h.chunks) a in
      let k = (cut-pairs DifferentSlots z.left (z.chunk ∷ z.right)).0 p in
      (all_map (λ c q. q.0) z.left k.2, all_map (λ c q e. q (sym e)) z.right k.1.0)

-- ---- other chunks in the place of those between

-- a slot that none of the chunks has
abbrev pub NoneAt : ℕ → List Chunk → Type 0
NoneAt i cs = All (λ c. c.slot ≢ i) cs

-- nothing is said of chunks elsewhere
silent : (i : ℕ) (ws : List ℕ) (cs : List Chunk) → NoneAt i cs → (a : ℕ)
    → AllFrom (λ b c. c.slot ≡ i → Tells ws i (entry_of b c)) a cs
silent i ws [] n a = tt
silent i ws (c ∷ cs) n a = (λ e. absurd (n.0 e), silent i ws cs n.1 (a + c.size))

-- a used slot that none of them has tells the same
carried : {ws ws' : List ℕ} (left mid mid' right : List Chunk) → TableOf ws (reverse_aux left (mid ++ right))
    → TableOf ws' (reverse_aux left (mid' ++ right)) → total mid ≡ total mid' → (i : ℕ) → NoneAt i mid → NoneAt i mid'
    → Used ws i → Tells ws' i (entry_at ws i)
carried {ws} {ws'} left mid mid' right h h' e i n n' u =
    let P : ℕ → Chunk → Type 0 = (λ b c. c.slot ≡ i → Tells ws' i (entry_of b c)) in
    let after : AllFrom P 0 (reverse_aux left (mid' ++ right)) =
    each-cut P [] (reverse_aux left (mid' ++ right))
    (λ z cut q.
    let k = standing_tells (cut_stands h' z cut) in
    subst (λ (j : ℕ). Tells ws' j (entry_of (first z) z.chunk)) q k) in
    let before = swapped P left mid' mid right (sym e) (silent i ws' mid n) after in
    let p = used-cut h i u in
    let k = at_cut P (reverse_aux left (mid ++ right)) before p.0 p.1 p.2.slot in
    (k.0, k.1 ∙ sym (standing_tells p.2).1)

-- Every other slot is as it was.
pub rest_same : {ws ws' : List ℕ} (left mid mid' right : List Chunk) → TableOf ws (reverse_aux left (mid ++ right))
    → TableOf ws' (reverse_aux left (mid' ++ right)) → total mid ≡ total mid' → slot_count ws' ≡ slot_count ws
    → (i : ℕ) → NoneAt i mid → NoneAt i mid' → Same ws ws' i
rest_same {ws} {ws'} left mid mid' right h h' e q i n n' = record {
  used = carried left mid mid' right h h' e i n n';
  empty = λ z.
      let l : Slot ws' i = rw q z.0 in
      ⊎_elim (λ t. (l, same-eq _ _ t))
      (λ f.
      let u : Used ws' i = (l, λ w. clash (ap (λ (x : List ℕ). same x empty_row) w ∙ same_refl empty_row) f) in
      absurd ((carried left mid' mid right h' h (sym e) i n' n u).0.1 z.1))
      (cases (same (row ws' i) empty_row));
}

-- ---- another chunk of the same slot and size in the place of one

-- the chunk with the size and the first byte that slot k tells
abbrev pub in_place : List ℕ → ℕ → Chunk → Entry
in_place ws k d = record { id = d.id; size = size_at ws k; first = first_byte_at ws k; kind = d.kind; label = d.label }

module _ {ws : List ℕ} {k : ℕ} (t : TableWords ws) (s : Sound ws) (z : Spot) (i : Standing ws z k) (d : Chunk) (b : Block)
    (h : SoundBlock b) (e : b.chunks ≡ replaced z d) (n : b.slots ≡ slot_count ws) (slot : d.slot ≡ z.chunk.slot)
    (size : d.size ≡ z.chunk.size) where
  after : TableOf (encode b) (replaced z d)
  after = let w = table_of b h in record { table = w.table; sound = w.sound; chunks = w.chunks ∙ e }

  -- Its slot tells of it, from the same first byte on.
  pub one-tells : Tells (encode b) k (in_place ws k d)
  one-tells =
      let told = standing_tells (cut_stands after (record { left = z.left; chunk = d; right = z.right }) refl) in
      let bytes = i.size ∙ sym size in
      let same : in_place ws k d ≡ entry_of (first z) d =
      (λ j. record { id = d.id; size = bytes j; first = i.first j; kind = d.kind; label = d.label }) in
      subst (λ (j : ℕ). Tells (encode b) j (in_place ws k d)) (slot ∙ i.slot) (told.0, told.1 ∙ sym same)

  -- Every other is as it was.
  pub one-others : (j : ℕ) → j ≢ k → Same ws (encode b) j
  one-others j f =
      let before : TableOf ws (chunks_of z) = record { table = t; sound = s; chunks = sym i.cut } in
      let bytes : z.chunk.size + 0 ≡ d.size + 0 = omega (arith, size) in
      rest_same z.left (z.chunk ∷ []) (d ∷ []) z.right before after bytes (encode-slots b ∙ n) j
      (λ q. f (sym q ∙ i.slot), tt) (λ q. f (sym q ∙ slot ∙ i.slot), tt)
