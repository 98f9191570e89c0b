-- What an accepted free leaves in the slots of a table. Theorems. Assumes nothing.
use Rattle.std.specs.Prelude.{ℕ, ◌+◌, ◌≢◌, ◌≡◌}
use Rattle.std.proofs.Common.{arith, ap, ◌∙◌}
use mathlib.Core.List.{List, [], ◌∷◌, ◌++◌, reverse_aux}
use Rattle.std.proofs.Math.Path.{refl, sym, subst}
use Rattle.laws.specs.Cuts.{cut_all}
use Rattle.laws.specs.Lists.{All, all_map}
use Rattle.laws.specs.Reply.{accepted}
use Rattle.model.specs.Block.{Chunk, Block, Spot, total}
use Rattle.model.specs.Effects.{chunks_of}
use Rattle.model.proofs.Effects.{released}
use Rattle.model.specs.GivingBack.{freed, release}
use Rattle.model.proofs.Kept.{release-keeps}
use Rattle.model.specs.Merging.{NearestLive, free_as}
use Rattle.model.proofs.Merging.{freed-alone, freed-next, freed-previous, freed-both}
use Rattle.model.specs.Placing.{with_chunks}
use Rattle.model.specs.Soundness.{Sound as SoundBlock}
use Rattle.table.specs.Layout.{Slot, slot_count, next_id, size_at, next_at, previous_at}
use Rattle.words.specs.Words.{encode, block_of, slots_of}
use Rattle.words.specs.Soundness.{Sound}
use Rattle.words.proofs.Rows.{encode-slots, encode-head}
use Rattle.opening.specs.Looked.{TableWords}
use Rattle.opening.proofs.Outcomes.{outcome-accepted}
use Rattle.giving_back.specs.GivingBack.{free_on}
use Rattle.block.specs.Entries.{Empty}
use Rattle.block.specs.Refused.{LiveSlot}
use Rattle.block.specs.ReplacedOnWords.{TableOf, table_of, entry_of, NoneAt, standing_tells, cut_stands, none-empty, others-elsewhere, rest_same}
use Rattle.block.specs.SlotsOnWords.{Standing, table-known, spot-stands}
use Rattle.block.specs.FreedOnWords.{FreeSlot, free_entry, FreedAt}

-- ---- on the way: chunks that give way to one free chunk

none_after : (i : ℕ) (cs right : List Chunk) → NoneAt i (cs ++ right) → NoneAt i right
none_after i [] right a = a
none_after i (c ∷ cs) right a = none_after i cs right a.1

-- each of the chunks between is in a slot of the table, and those around them are not in it
apart : {ws : List ℕ} (left cs right : List Chunk) → TableOf ws (reverse_aux left (cs ++ right))
    → All (λ d. Slot ws d.slot × NoneAt d.slot left × NoneAt d.slot right) cs
apart left [] right h = tt
apart left (c ∷ cs) right h =
    let z : Spot = record { left = left; chunk = c; right = cs ++ right } in
    let n = others-elsewhere h z refl in (
      ((cut_stands h z refl).used.0, n.0, none_after c.slot cs right n.1),
      all_map (λ d p. (p.0, p.1.1, p.2)) cs (apart (c ∷ left) cs right h),
    )

none_of : (i : ℕ) (cs : List Chunk) → All (λ j. i ≢ j) (slots_of cs) → NoneAt i cs
none_of i [] a = tt
none_of i (c ∷ cs) a = (λ e. a.0 (sym e), none_of i cs a.1)

module _ {ws : List ℕ} (left : List Chunk) (c : Chunk) (cs right : List Chunk)
    (h : TableOf ws (reverse_aux left (c ∷ (cs ++ right)))) (b : Block) (w : SoundBlock b) (n : ℕ)
    (sum : c.size + total cs ≡ n) (e : b.chunks ≡ reverse_aux left (free_as c n ∷ right)) (q : b.slots ≡ slot_count ws)
    (id : b.next ≡ next_id ws) where
  after : TableOf (encode b) (reverse_aux left (free_as c n ∷ right))
  after = let t = table_of b w in record { table = t.table; sound = t.sound; chunks = t.chunks ∙ e }

  slots_same : slot_count (encode b) ≡ slot_count ws
  slots_same = encode-slots b ∙ q

  merged-empty : (ds : List Chunk) → All (λ d. Slot ws d.slot × NoneAt d.slot (c ∷ left) × NoneAt d.slot right) ds
      → All (Empty (encode b)) (slots_of ds)
  merged-empty [] a = tt
  merged-empty (d ∷ ds) a =
      let m = a.0 in
      let none = (cut_all (λ x. x.slot ≢ d.slot) left (free_as c n ∷ right)).1 (m.1.1, (m.1.0, m.2)) in
      (none-empty after d.slot (rw slots_same m.0) none, merged-empty ds a.1)

  freed-at : FreedAt ws (encode b) c.slot n (slots_of cs)
  freed-at =
      let i = cut_stands h (record { left = left; chunk = c; right = cs ++ right }) refl in
      let told = standing_tells (cut_stands after (record { left = left; chunk = free_as c n; right = right }) refl) in
      let same : free_entry ws c.slot n ≡ entry_of (total left) (free_as c n) =
      (λ j. record { id = i.id j; size = n; first = i.first j; kind = 0; label = 0 }) in
      let total-same : c.size + total cs ≡ n + 0 = omega (arith, sum) in
      record {
        chunk = (told.0, told.1 ∙ sym same);
        next = (encode-head b).2 ∙ id;
        zeroed = merged-empty cs (apart (c ∷ left) cs right h);
        others = λ j f g.
            rest_same left (c ∷ cs) (free_as c n ∷ []) right h after total-same slots_same j
            (λ x. f (sym x), none_of j cs g) (λ x. f (sym x), tt);
      }

-- the same under other names
named : {ws ws' : List ℕ} {j k n size : ℕ} {is ks : List ℕ} → j ≡ k → n ≡ size → is ≡ ks → FreedAt ws ws' j n is
    → FreedAt ws ws' k size ks
named {ws} {ws'} {j} {k} {n} {size} {is} {ks} p q r h =
    subst (FreedAt ws ws' k size) r
    (subst (λ (m : ℕ). FreedAt ws ws' k m is) q (subst (λ (m : ℕ). FreedAt ws ws' m n is) p h))

-- ---- the chunk with its neighbours

-- the chunk of slot k, with those before it and those after it
abbrev spot : List Chunk → Chunk → List Chunk → Spot
spot left c right = record { left = left; chunk = c; right = right }

-- the block once it is given back
abbrev back : List ℕ → Spot → Block
back ws z = with_chunks (block_of ws) (freed z)

module _ (ws : List ℕ) (t : TableWords ws) (s : Sound ws) (k : ℕ) where
  table_here : {z : Spot} → Standing ws z k → TableOf ws (chunks_of z)
  table_here i = record { table = t; sound = s; chunks = sym i.cut }

  -- the chunk after it stands in the next slot, and the one before it in the previous one
  next-stands : (left : List Chunk) (c n : Chunk) (right : List Chunk) → Standing ws (spot left c (n ∷ right)) k
      → Standing ws (spot (c ∷ left) n right) (next_at ws k)
  next-stands left c n right i = subst (Standing ws _) (sym i.next) (spot-stands ws t s _ i.cut)

  previous-stands : (left : List Chunk) (p c : Chunk) (right : List Chunk) → Standing ws (spot (p ∷ left) c right) k
      → Standing ws (spot left p (c ∷ right)) (previous_at ws k)
  previous-stands left p c right i = subst (Standing ws _) (sym i.previous) (spot-stands ws t s _ i.cut)

  -- a neighbour that is not free is live
  next-live : (left : List Chunk) (c : Chunk) (right : List Chunk) → Standing ws (spot left c right) k
      → (FreeSlot ws (next_at ws k) → ⊥) → NearestLive right
  next-live left c [] i f = tt
  next-live left c (n ∷ right) i f = λ q. let j = next-stands left c n right i in f (j.used, j.kind ∙ q)

  previous-live : (left : List Chunk) (c : Chunk) (right : List Chunk) → Standing ws (spot left c right) k
      → (FreeSlot ws (previous_at ws k) → ⊥) → NearestLive left
  previous-live [] c right i f = tt
  previous-live (p ∷ left) c right i f = λ q. let j = previous-stands left p c right i in f (j.used, j.kind ∙ q)

  -- no neighbour is free
  alone-words : (left : List Chunk) (c : Chunk) (right : List Chunk) → Standing ws (spot left c right) k
      → SoundBlock (back ws (spot left c right)) → NearestLive left → NearestLive right
      → FreedAt ws (encode (back ws (spot left c right))) k (size_at ws k) []
  unfolding block_of
  alone-words left c right i w hl hr =
      named i.slot (sym i.size) refl
      (freed-at left c [] right (table_here i) (back ws (spot left c right)) w c.size (omega arith)
      (freed-alone left c right hl hr) refl refl)

  -- the one after is
  next-words : (left : List Chunk) (c : Chunk) (right : List Chunk) → Standing ws (spot left c right) k
      → SoundBlock (back ws (spot left c right)) → NearestLive left → FreeSlot ws (next_at ws k)
      → FreedAt ws (encode (back ws (spot left c right))) k (size_at ws k + size_at ws (next_at ws k)) (next_at ws k ∷ [])
  unfolding block_of
  next-words left c [] i w hl u = absurd (omega (arith, i.next, u.0.0))
  next-words left c (n ∷ right) i w hl u =
      let j = next-stands left c n right i in
      named i.slot (omega (arith, i.size, j.size)) (ap (λ (m : ℕ). m ∷ []) j.slot)
      (freed-at left c (n ∷ []) right (table_here i) (back ws (spot left c (n ∷ right))) w (c.size + n.size) (omega arith)
      (freed-next left c right n hl (sym j.kind ∙ u.1)) refl refl)

  -- the one before is
  previous-words : (left : List Chunk) (c : Chunk) (right : List Chunk) → Standing ws (spot left c right) k
      → SoundBlock (back ws (spot left c right)) → FreeSlot ws (previous_at ws k) → NearestLive right
      → FreedAt ws (encode (back ws (spot left c right))) (previous_at ws k) (size_at ws (previous_at ws k) + size_at ws k)
      (k ∷ [])
  unfolding block_of
  previous-words [] c right i w u hr = absurd (omega (arith, i.previous, u.0.0))
  previous-words (p ∷ left) c right i w u hr =
      let j = previous-stands left p c right i in
      named j.slot (omega (arith, i.size, j.size)) (ap (λ (m : ℕ). m ∷ []) i.slot)
      (freed-at left p (c ∷ []) right (table_here i) (back ws (spot (p ∷ left) c right)) w (p.size + c.size) (omega arith)
      (freed-previous left c right p (sym j.kind ∙ u.1) hr) refl refl)

  -- both are
  both_words : (left : List Chunk) (c : Chunk) (right : List Chunk) → Standing ws (spot left c right) k
      → SoundBlock (back ws (spot left c right)) → FreeSlot ws (previous_at ws k) → FreeSlot ws (next_at ws k)
      → FreedAt ws (encode (back ws (spot left c right))) (previous_at ws k)
      (size_at ws (previous_at ws k) + size_at ws k + size_at ws (next_at ws k)) (k ∷ next_at ws k ∷ [])
  unfolding block_of
  both_words [] c right i w u v = absurd (omega (arith, i.previous, u.0.0))
  both_words (p ∷ left) c [] i w u v = absurd (omega (arith, i.next, v.0.0))
  both_words (p ∷ left) c (n ∷ right) i w u v =
      let j = previous-stands left p c (n ∷ right) i in
      let m = next-stands (p ∷ left) c n right i in
      let slots : c.slot ∷ n.slot ∷ [] ≡ k ∷ next_at ws k ∷ [] = (λ x. i.slot x ∷ m.slot x ∷ []) in
      named j.slot (omega (arith, i.size, j.size, m.size)) slots
      (freed-at left p (c ∷ n ∷ []) right (table_here i) (back ws (spot (p ∷ left) c (n ∷ right))) w
      (p.size + (c.size + n.size)) (omega arith)
      (freed-both left c right p n (sym j.kind ∙ u.1) (sym m.kind ∙ v.1)) refl refl)

-- ---- the statements

module _ (ws : List ℕ) (id : ℕ) (e : (free_on ws id).0 ≡ accepted tt) (k : ℕ) (l : LiveSlot ws id k) where
  -- what holds of the words of the block once the chunk in slot k is given back
  given_back_lem : (C : List ℕ → Type 0)
      → (TableWords ws → Sound ws → (z : Spot) → Standing ws z k → SoundBlock (back ws z) → C (encode (back ws z)))
      → C (free_on ws id).1
  unfolding free_on
  given_back_lem C f =
      let a = outcome-accepted (λ b. tt) (λ b. b) (release id) ws tt e in
      let t = a.0 in
      let s = a.1 in
      let b = block_of ws in
      let x = a.2.0 in
      let after =
      released id b (λ y. SoundBlock y → C (encode y)) x a.2.1
      (λ z m w.
      let i = spot-stands ws t s z m.cut in
      let one : z.chunk.slot ≡ k = s.distinct _ k i.used l.0 (i.id ∙ m.named ∙ sym l.1) in
      f t s z (subst (Standing ws z) one i) w) in
      subst C (sym a.2.3) (after (release-keeps b (table-known ws t s).block id x a.2.1))

  -- A free gives back the live chunk with the id, in some slot k. No neighbour is free: the chunk alone is.
  pub free-alone : (FreeSlot ws (previous_at ws k) → ⊥) → (FreeSlot ws (next_at ws k) → ⊥)
      → FreedAt ws (free_on ws id).1 k (size_at ws k) []
  free-alone f g =
      given_back_lem (λ ws'. FreedAt ws ws' k (size_at ws k) [])
      (λ t s z i w.
      alone-words ws t s k z.left z.chunk z.right i w
      (previous-live ws t s k z.left z.chunk z.right i f) (next-live ws t s k z.left z.chunk z.right i g))

  -- Only the chunk after it is free: it goes into the one given back.
  pub free-with-next : (FreeSlot ws (previous_at ws k) → ⊥) → FreeSlot ws (next_at ws k)
      → FreedAt ws (free_on ws id).1 k (size_at ws k + size_at ws (next_at ws k)) (next_at ws k ∷ [])
  free-with-next f u =
      given_back_lem (λ ws'. FreedAt ws ws' k (size_at ws k + size_at ws (next_at ws k)) (next_at ws k ∷ []))
      (λ t s z i w.
      next-words ws t s k z.left z.chunk z.right i w
      (previous-live ws t s k z.left z.chunk z.right i f) u)

  -- Only the chunk before it is free: the one given back goes into that, whose id and slot survive.
  pub free-with-previous : FreeSlot ws (previous_at ws k) → (FreeSlot ws (next_at ws k) → ⊥)
      → FreedAt ws (free_on ws id).1 (previous_at ws k) (size_at ws (previous_at ws k) + size_at ws k) (k ∷ [])
  free-with-previous u g =
      given_back_lem (λ ws'. FreedAt ws ws' (previous_at ws k) (size_at ws (previous_at ws k) + size_at ws k) (k ∷ []))
      (λ t s z i w.
      previous-words ws t s k z.left z.chunk z.right i w u
      (next-live ws t s k z.left z.chunk z.right i g))

  -- Both are free: all three become one, under the id and in the slot of the leftmost.
  pub free-with-both : FreeSlot ws (previous_at ws k) → FreeSlot ws (next_at ws k)
      → FreedAt ws (free_on ws id).1 (previous_at ws k)
      (size_at ws (previous_at ws k) + size_at ws k + size_at ws (next_at ws k)) (k ∷ next_at ws k ∷ [])
  free-with-both u v =
      given_back_lem (λ ws'. FreedAt ws ws' (previous_at ws k)
      (size_at ws (previous_at ws k) + size_at ws k + size_at ws (next_at ws k)) (k ∷ next_at ws k ∷ []))
      (λ t s z i w. both_words ws t s k z.left z.chunk z.right i w u v)
