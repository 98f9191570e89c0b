-- What placing, giving back and renaming keep of a sound table, and how `allocated` moves. Assumes nothing.
use Rattle.std.specs.Prelude.{ℕ, ◌+◌, ◌-◌, ◌≤◌, List, ◌≡◌, refl, length}
use Rattle.std.proofs.Common.{arith, ◌∙◌}
use Rattle.std.proofs.Math.Path.{sym, ap}
use Rattle.laws.specs.Reply.{Reply, accepted, refused}
use Rattle.model.specs.Block.{Block, allocated}
use Rattle.model.proofs.Effects.{live_kind}
use Rattle.model.specs.GivingBack.{release, rename}
use Rattle.model.specs.Heads.{SameHeads}
use Rattle.model.proofs.Heads.{place-heads, release-heads, rename-heads}
use Rattle.model.proofs.Kept.{place-keeps, release-keeps, rename-keeps}
use Rattle.model.specs.Placing.{Request, Placed, taken_at, place}
use Rattle.model.specs.Requests.{WellFormed}
use Rattle.model.specs.Room.{Taken}
use Rattle.model.proofs.Room.{put-best}
use Rattle.model.specs.Soundness.{Sound as SoundBlock}
use Rattle.model.proofs.Totals.{place-rises, release-allocated, rename-allocated}
use Rattle.table.specs.Layout.{word_count, table_shape, block_size, next_id, size_at, first_byte_at}
use Rattle.words.specs.Words.{encode, block_of, decode}
use Rattle.words.specs.Soundness.{Sound}
use Rattle.words.proofs.Rows.{encode-length, encode-head}
use Rattle.words.proofs.Written.{decode-encode}
use Rattle.words.proofs.Checked.{decode-exactly}
use Rattle.opening.specs.Look.{on_table}
use Rattle.opening.specs.Calls.{leaves}
use Rattle.sub_allocator.specs.Answers.{Given}
use Rattle.placing.specs.Placing.{given, allocate_on}
use Rattle.giving_back.specs.GivingBack.{changes, free_on, rename_on}
use Rattle.opening.specs.Questions.{allocated_on}
use Rattle.opening.specs.Looked.{TableWords, table_exactly}
use Rattle.opening.proofs.Looked.{sound-answered}
use Rattle.opening.proofs.Outcomes.{call-accepted, outcome-accepted}
use Rattle.block.specs.Refused.{LiveSlot}
use Rattle.block.proofs.Refused.{free-accepted}
use Rattle.block.specs.RoomOnWords.{BestAt}
use Rattle.block.proofs.RoomOnWords.{best-words}
use Rattle.block.specs.SlotsOnWords.{table-known, spot-stands}

-- ---- a sound table of as many words

-- a call that leaves a sound block of as many slots, where it is accepted on one
module _ {A B : Type 0} (tells : A → B) (after : A → Block) (f : Block → Reply A)
    (keeps : (b : Block) → SoundBlock b → (x : A) → f b ≡ accepted x → SoundBlock (after x) × ((after x).slots ≡ b.slots))
    (ws : List ℕ) where
  kept : (a : Reply A) → on_table f (decode ws) ≡ a
      → (length (leaves tells after ws a).1 ≡ length ws) × (Sound ws → Sound (leaves tells after ws a).1)
  unfolding block_of
  kept (refused n) e = (refl, λ s. s)
  kept (accepted x) e =
      let c = call-accepted f ws x e in
      let k = keeps (block_of ws) (table-known ws c.0 c.1).block x c.2 in
      let d = (decode-exactly (encode (after x))).0 (after x, decode-encode (after x) k.0) in
      (encode-length (after x) ∙ ap word_count k.1 ∙ sym (table_shape ws ((table_exactly ws).1 c.0)).2, λ s. d.1)

  kept-length : length (leaves tells after ws (on_table f (decode ws))).1 ≡ length ws
  kept-length = (kept (on_table f (decode ws)) refl).0

  kept-sound : TableWords ws → Sound ws → TableWords (leaves tells after ws (on_table f (decode ws))).1
      × Sound (leaves tells after ws (on_table f (decode ws))).1
  kept-sound t s =
      let k = kept (on_table f (decode ws)) refl in
      ((t.0, t.1, t.2, k.0 ∙ t.3), k.1 s)

module _ (r : Request) where
  place_kept : (b : Block) → SoundBlock b → (p : Placed) → place r b ≡ accepted p
      → SoundBlock p.block × (p.block.slots ≡ b.slots)
  place_kept b s p e = (place-keeps b s r p e, (place-heads r b s p e).slots)

  -- An allocate leaves as many words as there were, whatever it answers.
  pub allocate-length : (ws : List ℕ) → length (allocate_on ws r).1 ≡ length ws
  unfolding allocate_on
  allocate-length ws = kept-length given (λ p. p.block) (place r) place_kept ws

  -- It leaves a sound table sound.
  pub allocate-sound : (ws : List ℕ) → TableWords ws → Sound ws
      → TableWords (allocate_on ws r).1 × Sound (allocate_on ws r).1
  unfolding allocate_on
  allocate-sound ws t s = kept-sound given (λ p. p.block) (place r) place_kept ws t s

module _ (id : ℕ) where
  release-kept : (b : Block) → SoundBlock b → (x : Block) → release id b ≡ accepted x → SoundBlock x × (x.slots ≡ b.slots)
  release-kept b s x e = (release-keeps b s id x e, (release-heads id b x e).slots)

  -- So does a free: as many words,
  pub free-length : (ws : List ℕ) → length (free_on ws id).1 ≡ length ws
  unfolding free_on
  free-length ws = kept-length (λ b. tt) (λ b. b) (release id) release-kept ws

  -- and a sound table.
  pub free-sound : (ws : List ℕ) → TableWords ws → Sound ws → TableWords (free_on ws id).1 × Sound (free_on ws id).1
  unfolding free_on
  free-sound ws t s = kept-sound (λ b. tt) (λ b. b) (release id) release-kept ws t s

module _ (id label : ℕ) where
  rename-kept : (b : Block) → SoundBlock b → (x : Block) → rename id label b ≡ accepted x
      → SoundBlock x × (x.slots ≡ b.slots)
  rename-kept b s x e = (rename-keeps b s id label x e, (rename-heads id label b x e).slots)

  -- And so does a rename: as many words,
  pub rename-length : (ws : List ℕ) → length (rename_on ws id label).1 ≡ length ws
  unfolding rename_on
  rename-length ws = kept-length (λ b. tt) (λ b. b) (rename id label) rename-kept ws

  -- and a sound table.
  pub rename-sound : (ws : List ℕ) → TableWords ws → Sound ws
      → TableWords (rename_on ws id label).1 × Sound (rename_on ws id label).1
  unfolding rename_on
  rename-sound ws t s = kept-sound (λ b. tt) (λ b. b) (rename id label) rename-kept ws t s

-- ---- the block size and the next id

-- An allocate keeps the block size, whatever it answers.
pub allocate_block_size : (ws : List ℕ) (r : Request) → block_size (allocate_on ws r).1 ≡ block_size ws
unfolding allocate_on block_of
allocate_block_size ws r = on (on_table (place r) (decode ws)) refl
  where
    on : (a : Reply Placed) → on_table (place r) (decode ws) ≡ a
        → block_size (leaves given (λ p. p.block) ws a).1 ≡ block_size ws
    on (refused n) e = refl
    on (accepted p) e =
        let c = call-accepted (place r) ws p e in
        (encode-head p.block).0 ∙ (place-heads r (block_of ws) (table-known ws c.0 c.1).block p c.2).size

-- the same of a call that keeps both
module _ (f : Block → Reply Block) (keeps : (b x : Block) → f b ≡ accepted x → SameHeads b x) (ws : List ℕ) where
  head_kept : (a : Reply Block) → on_table f (decode ws) ≡ a
      → (block_size (changes ws a).1 ≡ block_size ws) × (next_id (changes ws a).1 ≡ next_id ws)
  unfolding block_of
  head_kept (refused n) e = (refl, refl)
  head_kept (accepted x) e =
      let k = keeps (block_of ws) x (call-accepted f ws x e).2 in
      let h = encode-head x in
      (h.0 ∙ k.size, h.2 ∙ k.next)

-- A free keeps it, and the next id.
pub free_head : (ws : List ℕ) (id : ℕ)
    → (block_size (free_on ws id).1 ≡ block_size ws) × (next_id (free_on ws id).1 ≡ next_id ws)
unfolding free_on
free_head ws id = head_kept (release id) (release-heads id) ws (on_table (release id) (decode ws)) refl

-- So does a rename.
pub rename-head : (ws : List ℕ) (id label : ℕ)
    → (block_size (rename_on ws id label).1 ≡ block_size ws) × (next_id (rename_on ws id label).1 ≡ next_id ws)
unfolding rename_on
rename-head ws id label =
    head_kept (rename id label) (rename-heads id label) ws (on_table (rename id label) (decode ws)) refl

-- ---- `allocated`

-- what it answers on what a sound block is written as
written-allocated : (b : Block) → SoundBlock b → allocated_on (encode b) ≡ accepted (allocated b.chunks)
unfolding allocated_on
written-allocated b s = rw (decode-encode b s)

-- and on a sound table
table_allocated : (ws : List ℕ) → TableWords ws → Sound ws → allocated_on ws ≡ accepted (allocated (block_of ws).chunks)
unfolding allocated_on
table_allocated ws t s = sound-answered (λ b. accepted (allocated b.chunks)) ws t s

-- what it answers is that of the block that a sound table holds
read-allocated : (ws : List ℕ) (n : ℕ) → allocated_on ws ≡ accepted n
    → TableWords ws × Sound ws × (allocated (block_of ws).chunks ≡ n)
unfolding allocated_on
read-allocated ws n e =
    let c = call-accepted (λ b. accepted (allocated b.chunks)) ws n e in
    let q = c.2 in
    let same : allocated (block_of ws).chunks ≡ n = cc in
    (c.0, c.1, same)

-- the best places of a request begin at one byte
one_first : (r : Request) (ws : List ℕ) (j o k p : ℕ) → BestAt r ws j o → BestAt r ws k p
    → first_byte_at ws j ≡ first_byte_at ws k
one_first r ws j o k p a b =
    let q : size_at ws j ≡ size_at ws k = omega (arith, a.smallest k p b.room, b.smallest j o a.room) in
    omega (arith, a.earliest k p b.room q, b.earliest j o a.room (sym q))

-- An accepted request raises it by the bytes taken from the chunk that it is put into: padding plus size.
pub allocate_rises : (r : Request) → WellFormed r → (ws : List ℕ) (g : Given) → (allocate_on ws r).0 ≡ accepted g
    → (k : ℕ) → BestAt r ws k g.offset → (n : ℕ) → allocated_on ws ≡ accepted n
    → allocated_on (allocate_on ws r).1 ≡ accepted (n + (g.offset - first_byte_at ws k + r.size))
unfolding allocate_on taken_at
allocate_rises r h ws g e k best n m =
    let a = outcome-accepted given (λ p. p.block) (place r) ws g e in
    let b = block_of ws in
    let s = (table-known ws a.0 a.1).block in
    let p = a.2.0 in
    let x : Taken r b p = put-best r h b s p a.2.1 in
    let i = spot-stands ws a.0 a.1 x.spot x.best.room.cut in
    let there = (best-words ws a.0 a.1 r x.spot _ p.offset i).1 x.best in
    let begin = one_first r ws _ _ k _ there best in
    let rises = place-rises r b p x (live_kind _ h.kind).0 in
    let offset : p.offset ≡ g.offset = ap (λ (y : Given). y.offset) a.2.2 in
    let sum : allocated p.block.chunks ≡ n + (g.offset - first_byte_at ws k + r.size) =
    omega (arith, i.first, x.offset, (read-allocated ws n m).2) in
    ap allocated_on a.2.3 ∙ written-allocated p.block (place-keeps b s r p a.2.1) ∙ ap accepted sum

-- A free lowers it by the size of the live chunk with the id.
pub free_falls : (ws : List ℕ) (id k : ℕ) → LiveSlot ws id k → (n : ℕ) → allocated_on ws ≡ accepted n
    → (size_at ws k ≤ n) × (allocated_on (free_on ws id).1 ≡ accepted (n - size_at ws k))
unfolding free_on
free_falls ws id k l n m =
    let q = read-allocated ws n m in
    let a = outcome-accepted (λ b. tt) (λ b. b) (release id) ws tt ((free-accepted ws id).1 (q.0, q.1, (k, l))) in
    let b = block_of ws in
    let x = a.2.0 in
    let s = (table-known ws q.0 q.1).block in
    let fall = release-allocated id b x a.2.1 in
    let z = fall.spot in
    let i = spot-stands ws q.0 q.1 z fall.live.cut in
    let one : z.chunk.slot ≡ k = q.1.distinct _ k i.used l.0 (i.id ∙ fall.live.named ∙ sym l.1) in
    let size : size_at ws k ≡ z.chunk.size = ap (size_at ws) (sym one) ∙ i.size in
    let rest : allocated x.chunks ≡ n - size_at ws k = omega (arith, fall.allocated, q.2) in
    let below : size_at ws k ≤ n = omega (arith, fall.allocated, q.2) in
    (below, ap allocated_on a.2.3 ∙ written-allocated x (release-keeps b s id x a.2.1) ∙ ap accepted rest)

-- A rename keeps it, whatever it answers.
pub rename-keeps_allocated : (ws : List ℕ) (id label : ℕ) → allocated_on (rename_on ws id label).1 ≡ allocated_on ws
unfolding rename_on
rename-keeps_allocated ws id label = on (on_table (rename id label) (decode ws)) refl
  where
    on : (a : Reply Block) → on_table (rename id label) (decode ws) ≡ a → allocated_on (changes ws a).1 ≡ allocated_on ws
    on (refused n) e = refl
    on (accepted x) e =
        let c = call-accepted (rename id label) ws x e in
        let b = block_of ws in
        written-allocated x (rename-keeps b (table-known ws c.0 c.1).block id label x c.2)
        ∙ ap accepted (rename-allocated id label b x c.2) ∙ sym (table_allocated ws c.0 c.1)
