-- What each step of giving back leaves. Assumes nothing.
use Prim.Native.Nat.{ℕ, ◌+◌, ◌^◌, ◌≤◌, ◌<◌}
use native.Mathlib.Omega.{arith}
use mathlib.Core.Bool.{Bool, true, false, cond}
use mathlib.Core.List.{List, [], ◌∷◌, reverse_aux}
use mathlib.Core.Logic.{◌≢◌}
use mathlib.Core.Path.{◌≡◌, refl, sym, ap, ◌∙◌}
use Rattle.std.specs.Prelude.{eqb}
use Rattle.std.proofs.Common.{subst, eq-eqb, eqb-true, ne_eqb}
use Rattle.std.proofs.lemmas.Bool.{eqb-false}
use Rattle.laws.specs.Cuts.{cut_all, swap-all, drop_all}
use Rattle.laws.specs.Lists.{All}
use Rattle.laws.specs.Tests.{cond_cases}
use Rattle.model.specs.Block.{Chunk, Block, Spot, total, is_free, largest_block}
use Rattle.model.specs.Choose.{Cut}
use Rattle.model.specs.Effects.{chunks_of}
use Rattle.model.specs.GivingBack.{grown, merge_left, merge_right, freed}
use Rattle.model.specs.Placing.{with_chunks}
use Rattle.model.specs.Sums.{total-cut, allocated-cut}
use Rattle.model.proofs.Totals.{replaced-total, live_size_lem}
use Rattle.table.specs.Layout.{Slot, allocated_word, size_at, kind_at, next_at, previous_at}
use Rattle.table.specs.declared.layout.Field.{Field}
use Rattle.table.specs.Named.{field_at}
use Rattle.words.specs.Laid.{Laid}
use Rattle.words.proofs.Laid.{block_back}
use Rattle.words.specs.Spots.{InSlot}
use Rattle.words.proofs.Spots.{in_table, in_words, before-in, after-in, written-spot}
use Rattle.words.specs.Words.{encode, block_of}
use Rattle.pieces.proofs.JoinedWords.{taken-place, free_laid, joined-laid}
use Rattle.chunks.specs.Premises.{FreeIn, LiveIn, TwoFree}
use Rattle.chunks.specs.Sides.{next-within, allocated-of-table}
use Rattle.chunks.specs.Steps.{set_free}
use Rattle.pieces.specs.Premises.{CanJoin}
use Rattle.pieces.specs.Steps.{joined}
use Rattle.giving_back.specs.GivingBack.{next_taken, join_next, join_previous, join_beside, link_of, left_of, Bounded}
use Rattle.giving_back.specs.declared.Side.{Side}
use Rattle.giving_back.specs.declared.Side.TheVariants as side

-- a free chunk is labelled 0
abbrev Unnamed : Chunk → Type 0
Unnamed c = c.kind ≡ 0 → c.label ≡ 0

-- ---- one step

-- nothing is merged: the words stay
unmerged : {ws : List ℕ} {k : ℕ} {z : Spot} → InSlot ws k z → ws ≡ encode (with_chunks (block_of ws) (chunks_of z))
unmerged {ws} {k} {z} h = sym (ap (λ (cs : List Chunk). encode (with_chunks (block_of ws) cs)) h.cut ∙ h.words)

-- two neighbours have at most as many bytes as the block
pair_bytes : (b : Block) → Bounded b → (left : List Chunk) (c d : Chunk) (right : List Chunk)
    → reverse_aux left (c ∷ d ∷ right) ≡ b.chunks → c.size + d.size < 2 ^ 64
pair_bytes b h left c d right cut =
    let t : total left + total (c ∷ d ∷ right) ≡ total b.chunks =
    sym (total-cut left (c ∷ d ∷ right)) ∙ ap total cut in
    omega (arith, h.bytes)

-- what joining two free chunks requires
joins : {ws : List ℕ} {k : ℕ} {left : List Chunk} {c d : Chunk} {right : List Chunk} → Bounded (block_of ws)
    → TwoFree ws k left c d right
    → CanJoin ws k
joins {ws} {k} {left} {c} {d} {right} h f =
    let p = taken-place f in (
      in_table ws k _ f.place,
      in_table ws (next_at ws k) _ p,
      next-within p,
      omega (arith, (in_words f.place).size, (in_words p).size, pair_bytes (block_of ws) h left c d right f.place.cut),
    )

-- ---- the next chunk

module _ (ws : List ℕ) (k : ℕ) (left : List Chunk) (c : Chunk) where
  abbrev here : List Chunk → Spot
  here right = record { left = left; chunk = c; right = right }

  no-next : (right : List Chunk) → FreeIn ws k (here right) → next_at ws k ≡ 0
      → ws ≡ encode (join_next (here right) (block_of ws))
  unfolding join_next
  no-next [] f e = unmerged f.place
  no-next (d ∷ right) f e = absurd (omega (arith, e, (in_table ws (next_at ws k) _ (after-in f.place)).0))

  next-held : (right : List Chunk) → FreeIn ws k (here right) → next_at ws k ≢ 0 → Slot ws (next_at ws k)
  next-held [] f n = absurd (n (in_words f.place).next)
  next-held (d ∷ right) f n = in_table ws (next_at ws k) _ (after-in f.place)

  next-live : (right : List Chunk) → FreeIn ws k (here right) → next_at ws k ≢ 0 → kind_at ws (next_at ws k) ≢ 0
      → ws ≡ encode (join_next (here right) (block_of ws))
  unfolding join_next
  next-live [] f n l = absurd (n (in_words f.place).next)
  next-live (d ∷ right) f n l =
      let e : is_free d ≡ false = ne_eqb d.kind 0 (λ q. l ((in_words (after-in f.place)).kind ∙ q)) in
      rw e (unmerged f.place)

  two : (d : Chunk) (right : List Chunk) → FreeIn ws k (here (d ∷ right)) → kind_at ws (next_at ws k) ≡ 0
      → TwoFree ws k left c d right
  two d right f e = record {
    place = f.place;
    free = f.free;
    unnamed = f.unnamed;
    next_free = sym (in_words (after-in f.place)).kind ∙ e;
  }

  next-joins : (right : List Chunk) → FreeIn ws k (here right) → Bounded (block_of ws) → next_at ws k ≢ 0
      → kind_at ws (next_at ws k) ≡ 0 → CanJoin ws k
  next-joins [] f h n e = absurd (n (in_words f.place).next)
  next-joins (d ∷ right) f h n e = joins h (two d right f e)

  next-joined : (right : List Chunk) (ws' : List ℕ) → FreeIn ws k (here right) → next_at ws k ≢ 0
      → kind_at ws (next_at ws k) ≡ 0
      → ((l : List Chunk) (a b : Chunk) (r : List Chunk) → TwoFree ws k l a b r → ws' ≡ encode (joined l a b r (block_of ws)))
      → ws' ≡ encode (join_next (here right) (block_of ws))
  unfolding join_next joined
  next-joined [] ws' f n e j = absurd (n (in_words f.place).next)
  next-joined (d ∷ right) ws' f n e j =
      let t = two d right f e in
      let q : is_free d ≡ true = eq-eqb d.kind 0 t.next_free in
      j left c d right t ∙ rw q

-- ---- the previous chunk

module _ (ws : List ℕ) (k : ℕ) (c : Chunk) (right : List Chunk) where
  abbrev there : List Chunk → Spot
  there left = record { left = left; chunk = c; right = right }

  no-previous : (left : List Chunk) → FreeIn ws k (there left) → previous_at ws k ≡ 0
      → ws ≡ encode (join_previous (there left) (block_of ws))
  unfolding join_previous
  no-previous [] f e = unmerged f.place
  no-previous (p ∷ left) f e =
      absurd (omega (arith, e, (in_table ws (previous_at ws k) _ (before-in f.place)).0))

  previous-held : (left : List Chunk) → FreeIn ws k (there left) → previous_at ws k ≢ 0 → Slot ws (previous_at ws k)
  previous-held [] f n = absurd (n (in_words f.place).previous)
  previous-held (p ∷ left) f n = in_table ws (previous_at ws k) _ (before-in f.place)

  previous-live : (left : List Chunk) → FreeIn ws k (there left) → previous_at ws k ≢ 0
      → kind_at ws (previous_at ws k) ≢ 0 → ws ≡ encode (join_previous (there left) (block_of ws))
  unfolding join_previous
  previous-live [] f n l = absurd (n (in_words f.place).previous)
  previous-live (p ∷ left) f n l =
      let e : is_free p ≡ false = ne_eqb p.kind 0 (λ q. l ((in_words (before-in f.place)).kind ∙ q)) in
      rw e (unmerged f.place)

  pair : (p : Chunk) (left : List Chunk) → FreeIn ws k (there (p ∷ left)) → Bounded (block_of ws)
      → kind_at ws (previous_at ws k) ≡ 0 → TwoFree ws (previous_at ws k) left p c right
  pair p left f h e =
      let i = before-in f.place in
      let z : p.kind ≡ 0 = sym (in_words i).kind ∙ e in
      let l : All (λ (c : Chunk). c.kind ≡ 0 → c.label ≡ 0) (reverse_aux left (p ∷ c ∷ right)) = rw i.cut h.labels in
      record {
        place = i;
        free = z;
        unnamed = ((cut_all _ left (p ∷ c ∷ right)).0 l).1.0 z;
        next_free = f.free;
      }

  previous-joins : (left : List Chunk) → FreeIn ws k (there left) → Bounded (block_of ws) → previous_at ws k ≢ 0
      → kind_at ws (previous_at ws k) ≡ 0 → CanJoin ws (previous_at ws k)
  previous-joins [] f h n e = absurd (n (in_words f.place).previous)
  previous-joins (p ∷ left) f h n e = joins h (pair p left f h e)

  previous-joined : (left : List Chunk) (ws' : List ℕ) → FreeIn ws k (there left) → Bounded (block_of ws)
      → previous_at ws k ≢ 0 → kind_at ws (previous_at ws k) ≡ 0
      → ((l : List Chunk) (a b : Chunk) (r : List Chunk) → TwoFree ws (previous_at ws k) l a b r
      → ws' ≡ encode (joined l a b r (block_of ws)))
      → ws' ≡ encode (join_previous (there left) (block_of ws))
  unfolding join_previous joined
  previous-joined [] ws' f h n e j = absurd (n (in_words f.place).previous)
  previous-joined (p ∷ left) ws' f h n e j =
      let t = pair p left f h e in
      let q : is_free p ≡ true = eq-eqb p.kind 0 t.free in
      j left p c right t ∙ rw q

-- ---- the neighbour on either side

module _ (ws : List ℕ) (k : ℕ) (z : Spot) (h : FreeIn ws k z) where
  abbrev beside_at : Side → ℕ
  beside_at s = field_at (link_of s) ws k

  none : (s : Side) → beside_at s ≡ 0 → ws ≡ encode (join_beside s z (block_of ws))
  none side.Next = no-next ws k z.left z.chunk z.right h
  none side.Previous = no-previous ws k z.chunk z.right z.left h

  held : (s : Side) → beside_at s ≢ 0 → Slot ws (beside_at s)
  held side.Next = next-held ws k z.left z.chunk z.right h
  held side.Previous = previous-held ws k z.chunk z.right z.left h

  live : (s : Side) → beside_at s ≢ 0 → kind_at ws (beside_at s) ≢ 0 → ws ≡ encode (join_beside s z (block_of ws))
  live side.Next = next-live ws k z.left z.chunk z.right h
  live side.Previous = previous-live ws k z.chunk z.right z.left h

  both : (s : Side) → Bounded (block_of ws) → beside_at s ≢ 0 → kind_at ws (beside_at s) ≡ 0
      → CanJoin ws (left_of s k (beside_at s))
  both side.Next = next-joins ws k z.left z.chunk z.right h
  both side.Previous = previous-joins ws k z.chunk z.right z.left h

  one : (s : Side) (ws' : List ℕ) → Bounded (block_of ws) → beside_at s ≢ 0 → kind_at ws (beside_at s) ≡ 0
      → ((l : List Chunk) (a b : Chunk) (r : List Chunk) → TwoFree ws (left_of s k (beside_at s)) l a b r
      → ws' ≡ encode (joined l a b r (block_of ws)))
      → ws' ≡ encode (join_beside s z (block_of ws))
  one side.Next ws' b = next-joined ws k z.left z.chunk z.right ws' h
  one side.Previous ws' b = previous-joined ws k z.chunk z.right z.left ws' h b

  -- n is what the code reads: the slot of the neighbour
  module _ (s : Side) (f : Field) (n : ℕ) (link : f ≡ link_of s) (read : n ≡ field_at f ws k) where
    n-is : n ≡ beside_at s
    n-is = read ∙ ap (λ (f : Field). field_at f ws k) link

    pub beside-none : n ≡ 0 → ws ≡ encode (join_beside s z (block_of ws))
    beside-none e = none s (sym n-is ∙ e)

    module _ (some : n ≢ 0) where
      some-is : beside_at s ≢ 0
      some-is e = some (n-is ∙ e)

      pub beside-held : Slot ws n
      beside-held = rw n-is (held s some-is)

      pub beside-live : eqb (kind_at ws n) 0 ≡ false → ws ≡ encode (join_beside s z (block_of ws))
      beside-live e = live s some-is (λ z. eqb-false _ _ e (ap (kind_at ws) n-is ∙ z))

      module _ (b : Bounded (block_of ws)) (free : eqb (kind_at ws n) 0 ≡ true) (m : ℕ) (left : m ≡ left_of s k n) where
        kind-is : kind_at ws (beside_at s) ≡ 0
        kind-is = sym (ap (kind_at ws) n-is) ∙ eqb-true _ _ free

        m-is : m ≡ left_of s k (beside_at s)
        m-is = left ∙ ap (left_of s k) n-is

        pub beside-joins : CanJoin ws m
        beside-joins = subst (CanJoin ws) (sym m-is) (both s b some-is kind-is)

        pub beside-joined : (ws' : List ℕ)
            → ((l : List Chunk) (a b : Chunk) (r : List Chunk) → TwoFree ws m l a b r
            → ws' ≡ encode (joined l a b r (block_of ws)))
            → ws' ≡ encode (join_beside s z (block_of ws))
        beside-joined ws' j =
            one s ws' b some-is kind-is
            (subst (λ (m : ℕ). (l : List Chunk) (a b : Chunk) (r : List Chunk) → TwoFree ws m l a b r
            → ws' ≡ encode (joined l a b r (block_of ws))) m-is j)

-- ---- from one step to the next

-- the block that words hold which are written as a laid one
block-of : (b : Block) → Laid b → (ws : List ℕ) → ws ≡ encode b → block_of ws ≡ b
block-of b h ws e = ap block_of e ∙ block_back b h

-- once a free next chunk is merged in
module _ (b : Block) (left : List Chunk) (c : Chunk) where
  next-laid : (right : List Chunk) → Cut b.chunks (record { left = left; chunk = c; right = right }) → Laid b
      → Laid (join_next (record { left = left; chunk = c; right = right }) b)
  unfolding join_next joined
  next-laid [] cut h = rw cut h
  next-laid (d ∷ right) cut h =
      cond_cases (λ z. Laid (with_chunks b (chunks_of z))) (is_free d) (λ t. joined-laid left c d right b cut h) (λ t. rw cut h)

  next-bounded : (right : List Chunk) → Cut b.chunks (record { left = left; chunk = c; right = right }) → Bounded b
      → Bounded (join_next (record { left = left; chunk = c; right = right }) b)
  unfolding join_next
  next-bounded [] cut h = rw cut h
  next-bounded (d ∷ right) cut h =
      cond_cases (λ z. Bounded (with_chunks b (chunks_of z))) (is_free d) (λ t. record {
        bytes =
            let n : total (reverse_aux left (c ∷ d ∷ right)) ≤ largest_block = rw cut h.bytes in
            omega (arith, total-cut left (c ∷ d ∷ right), total-cut left (grown c d.size ∷ right));
        labels =
            swap-all Unnamed left c (grown c d.size) right (λ u f. refl)
            (drop_all Unnamed left c d right (rw cut h.labels));
      }) (λ t. rw cut h)

  -- it is still the chunk in its slot, free
  next-chunk : (right : List Chunk) → c.kind ≡ 0 → c.label ≡ 0 → let z = next_taken left c right in
      (z.chunk.slot ≡ c.slot) × (z.chunk.kind ≡ 0) × (z.chunk.label ≡ 0)
  next-chunk [] f u = (refl, f, u)
  next-chunk (d ∷ right) f u =
      cond_cases (λ (z : Spot). (z.chunk.slot ≡ c.slot) × (z.chunk.kind ≡ 0) × (z.chunk.label ≡ 0)) (is_free d)
      (λ t. (refl, refl, refl)) (λ t. (refl, f, u))

  -- then it is merged into a free previous one
  next-then-previous : (right : List Chunk) → let z = next_taken left c right in
      merge_left z.left z.chunk z.right ≡ merge_right left c right
  next-then-previous [] = refl
  next-then-previous (d ∷ right) = turned (is_free d)
    where
      turned : (t : Bool) → let z : Spot = cond t (record { left = left; chunk = grown c d.size; right = right }) (record { left = left; chunk = c; right = d ∷ right }) in
          merge_left z.left z.chunk z.right
          ≡ cond t (merge_left left (grown c d.size) right) (merge_left left c (d ∷ right))
      turned true = refl
      turned false = refl

-- ---- the three steps

-- what setting a live chunk free requires
pub sets_free : (ws : List ℕ) (k : ℕ) (z : Spot) → LiveIn ws k z → Slot ws k × (size_at ws k ≤ allocated_word ws)
sets_free ws k z l =
    let p = l.place in (
      in_table ws k z p,
      omega (arith, (in_words p).size, allocated-of-table p, allocated-cut z.left (z.chunk ∷ z.right), live_size_lem z.chunk l.live),
    )

module _ (ws : List ℕ) (k : ℕ) (z : Spot) (l : LiveIn ws k z) (h : Bounded (block_of ws)) (ws₁ : List ℕ)
    (e₁ : ws₁ ≡ encode (set_free z (block_of ws))) where
  -- the chunk once it is free
  abbrev pub free₁ : Spot
  free₁ = record { left = z.left; chunk = grown z.chunk 0; right = z.right }

  laid₁ : Laid (set_free z (block_of ws))
  laid₁ = free_laid z (block_of ws) l.place.cut l.place.laid

  pub block₁ : block_of ws₁ ≡ set_free z (block_of ws)
  block₁ = block-of (set_free z (block_of ws)) laid₁ ws₁ e₁

  pub in₁ : FreeIn ws₁ k free₁
  unfolding set_free
  in₁ = record {
    place = written-spot (set_free z (block_of ws)) laid₁ ws₁ e₁ free₁ refl k l.place.slot;
    free = refl;
    unnamed = refl;
  }

  pub bounded₁ : Bounded (block_of ws₁)
  unfolding set_free
  bounded₁ = rw block₁ (record {
    bytes =
        let n : total (chunks_of z) ≤ largest_block = rw l.place.cut h.bytes in
        omega (arith, replaced-total z (grown z.chunk 0) (omega arith));
    labels = swap-all Unnamed z.left z.chunk (grown z.chunk 0) z.right (λ u f. refl) (rw l.place.cut h.labels);
  })

  module _ (ws₂ : List ℕ) (e₂ : ws₂ ≡ encode (join_next free₁ (block_of ws₁))) where
    -- and once a free next one is merged in
    abbrev pub free₂ : Spot
    free₂ = next_taken z.left (grown z.chunk 0) z.right

    cut₁ : Cut (block_of ws₁).chunks free₁
    cut₁ = in₁.place.cut

    laid₂ : Laid (join_next free₁ (block_of ws₁))
    laid₂ = next-laid (block_of ws₁) z.left (grown z.chunk 0) z.right cut₁ in₁.place.laid

    block₂ : block_of ws₂ ≡ join_next free₁ (block_of ws₁)
    block₂ = block-of (join_next free₁ (block_of ws₁)) laid₂ ws₂ e₂

    pub in₂ : FreeIn ws₂ k free₂
    unfolding join_next
    in₂ =
        let q = next-chunk (block_of ws₁) z.left (grown z.chunk 0) z.right refl refl in
        record {
          place = written-spot (join_next free₁ (block_of ws₁)) laid₂ ws₂ e₂ free₂ refl k (q.0 ∙ l.place.slot);
          free = q.1;
          unnamed = q.2;
        }

    pub bounded₂ : Bounded (block_of ws₂)
    bounded₂ = rw block₂ (next-bounded (block_of ws₁) z.left (grown z.chunk 0) z.right cut₁ bounded₁)

    -- The chunk is given back: the words are those of the block after it.
    pub given_back_lem : (ws₃ : List ℕ) → ws₃ ≡ encode (join_previous free₂ (block_of ws₂)) → ws₃ ≡ encode (with_chunks (block_of ws) (freed z))
    unfolding join_previous join_next set_free
    given_back_lem ws₃ e₃ =
        e₃ ∙ ap (λ (b : Block). encode (with_chunks b (merge_left free₂.left free₂.chunk free₂.right))) (block₂ ∙ ap (join_next free₁) block₁)
        ∙ ap (λ (cs : List Chunk). encode (with_chunks (block_of ws) cs)) (next-then-previous (block_of ws) z.left (grown z.chunk 0) z.right)
