-- What each way through placing answers, and the words that it leaves. Assumes nothing.
use Prim.Native.Nat.{ℕ, zero, suc, ◌+◌, ◌-◌, ◌^◌, ◌≤◌, ◌<◌}
use native.Mathlib.Omega.{arith}
use mathlib.Core.Bool.{true}
use mathlib.Core.List.{List, ◌∷◌}
use mathlib.Core.Logic.{◌≢◌, ⊎_elim}
use mathlib.Core.Option.{Option, none, some}
use mathlib.Core.Path.{◌≡◌, refl, sym, ap, subst, ◌∙◌}
use Rattle.laws.specs.Powers.{Pow2}
use Rattle.laws.specs.Reply.{Reply, accepted, refused}
use Rattle.model.specs.Block.{Spot, total, first, allocated, largest_block, no_id}
use Rattle.model.specs.Placing.{Request, Placed, offset_at, taken_at, offset_in, taken, chosen, new_slot, fault, unless_fault, place_in, place}
use Rattle.model.specs.Put.{Choice, FitsIn}
use Rattle.model.proofs.Put.{answers, choice-fits}
use Rattle.model.specs.Requests.{Formed}
use Rattle.model.proofs.Requests.{no_fault}
use Rattle.model.specs.Soundness.{Sound}
use Rattle.model.specs.Sums.{total-cut, allocated-cut, allocated-most}
use Rattle.model.proofs.Totals.{free_size}
use Rattle.table.specs.Layout.{Slot, is_table, slot_count, allocated_word, next_id, id_at, size_at, first_byte_at}
use Rattle.words.specs.Spots.{InSlot}
use Rattle.words.proofs.Spots.{in_table, in_words}
use Rattle.words.specs.Words.{encode, block_of, sound}
use Rattle.words.proofs.Written.{known}
use Rattle.chunks.specs.Premises.{FreeIn, NoneIn}
use Rattle.chunks.specs.Sides.{previous-within}
use Rattle.chunks.specs.Steps.{taken_whole}
use Rattle.pieces.specs.Steps.{split_in_two}
use Rattle.search.specs.Best.{best_slot, best_none, best-some}
use Rattle.search.specs.Empty.{new_slot-empty}
use Rattle.search.specs.Fit.{before_at, offset-chunk}
use Rattle.search.specs.Slots.{some_slot, no_slot, one_slot, within, not_within, is_within}
use Rattle.placing.proofs.Sought.{one_found, none_found}
use Rattle.refusals.specs.declared.Refusal.{Refusal}
use Rattle.refusals.specs.declared.Refusal.TheVariants.{NoSlot, NoRoom}
use Rattle.refusals.specs.Refusals.{number_of}
use Rattle.std.specs.Prelude as std
use Rattle.std.specs.Prelude.{ok_or, Ok, Err}
use Rattle.pieces.specs.Premises.{CanSplit}
use Rattle.chunks.specs.declared.taking.Mark.{Mark}
use Rattle.opening.specs.Calls.{leaves}
use Rattle.opening.specs.Look.{table_fault}
use Rattle.sub_allocator.specs.Answers.{Given}
use Rattle.placing.specs.Placing.{given, mark_of, placed_on, allocate_on, Chosen, Measured}
use Rattle.opening.specs.Fault.{on-block}
use Rattle.opening.proofs.Turned.{turned-away}
use Rattle.refusals.proofs.Refusals.{number-positive}

module _ (ws : List ℕ) (k : ℕ) (r : Request) (h : Chosen ws k r) where
  abbrev z : Spot
  z = h.spot

  place_of : InSlot ws k z
  place_of = h.place.place

  -- ---- what the words of the slot are

  pub slot-in : Slot ws k
  slot-in = in_table ws k z place_of

  id-in : id_at ws k ≡ z.chunk.id
  id-in = (in_words place_of).id

  size_in : size_at ws k ≡ z.chunk.size
  size_in = (in_words place_of).size

  first-in : first_byte_at ws k ≡ first z
  first-in = (in_words place_of).begins

  offset-in : offset_at r (first_byte_at ws k) (before_at ws k) ≡ offset_in r z
  offset-in = offset-chunk ws k z place_of r

  -- ---- what fits

  sound-block : Sound (block_of ws)
  sound-block = (known ws h.sound).block

  formed : Formed Pow2 r
  formed = (no_fault r).0 h.formed

  pub kind-live : r.kind ≢ 0
  kind-live e = ⊎_elim (λ (q : r.kind ≡ 1). omega arith) (λ (q : r.kind ≡ 2). omega arith) formed.kind

  fits : FitsIn r (block_of ws) z (offset_in r z)
  fits = on (chosen r (block_of ws)) h.chosen (choice-fits r formed (block_of ws) sound-block)
    where
      on : (s : Option Spot) → s ≡ some z → Choice (FitsIn r (block_of ws)) r s → FitsIn r (block_of ws) z (offset_in r z)
      on none e c = let n : ◌≡◌ {A = ℕ} 0 1 = cc in absurd (omega arith)
      on (some y) e c = let q : y ≡ z = cc in rw (← q) c.room

  in_block : first z + z.chunk.size ≤ largest_block
  in_block =
      let t : total z.left + total (z.chunk ∷ z.right) ≡ total (block_of ws).chunks =
      sym (total-cut z.left (z.chunk ∷ z.right)) ∙ ap total place_of.cut in
      let w = sound-block.whole in
      let s = sound-block.size in
      omega arith

  live-bytes : allocated_word ws + z.chunk.size ≤ largest_block
  unfolding block_of
  live-bytes =
      let a : allocated_word ws ≡ allocated (block_of ws).chunks = (known ws h.sound).allocated in
      let c : allocated z.left + allocated (z.chunk ∷ z.right) ≡ allocated (block_of ws).chunks =
      sym (allocated-cut z.left (z.chunk ∷ z.right)) ∙ ap allocated place_of.cut in
      let t : total z.left + total (z.chunk ∷ z.right) ≡ total (block_of ws).chunks =
      sym (total-cut z.left (z.chunk ∷ z.right)) ∙ ap total place_of.cut in
      let f = free_size z.chunk h.place.free in
      let l = allocated-most z.left in
      let m = allocated-most z.right in
      let w = sound-block.whole in
      let s = sound-block.size in
      omega arith

  opened : placed_on ws r ≡ leaves given (λ (p : Placed). p.block) ws (place_in r (block_of ws) (some z))
  unfolding placed_on
  opened = rw h.chosen

  pub takes_whole : Slot ws k × (allocated_word ws + size_at ws k < 2 ^ 64)
  takes_whole = (slot-in, omega (arith, live-bytes, size_in))

  -- ---- the ways: o and f are what the code reads, the offset and the chunk's first byte

  module _ (o f : ℕ) (is-offset : o ≡ offset_at r (first_byte_at ws k) (before_at ws k)) (is-first : f ≡ first_byte_at ws k) where
    offset-told : o ≡ offset_in r z
    offset-told = is-offset ∙ offset-in

    bytes-told : o - f + r.size ≡ taken r z
    unfolding taken_at
    bytes-told = rw (offset-told, is-first, first-in)

    pub above : f ≤ o
    above = omega (arith, first-in, offset-told, fits.fits.above)

    pub short : o - f + r.size < 2 ^ 64
    short = omega (arith, first-in, offset-told, in_block, fits.fits.below)

    module _ (s : ℕ) (is-size : s ≡ size_at ws k) where
      pub measured : o - f + r.size < s → Measured ws k o (o - f + r.size) r
      measured l = record { chosen = h; offset = offset-told; bytes = bytes-told; part = omega arith }

      pub whole : (id : ℕ) → id ≡ id_at ws k → s ≤ o - f + r.size → (mark : Mark) → mark ≡ mark_of r → (ws' : List ℕ)
          → ((z : Spot) → FreeIn ws k z → mark.kind ≢ 0 → ws' ≡ encode (taken_whole mark.kind mark.label z (block_of ws)))
          → (accepted (record { offset = o; id = id }), ws') ≡ placed_on ws r
      unfolding taken_whole
      whole id i l mark q ws' take =
          let e = take z h.place (λ n. kind-live (ap (λ (m : Mark). m.kind) (sym q) ∙ n)) in
          rw (opened, e, q, i, id-in, offset-told)
          (answers r (block_of ws)
          (λ a. (accepted (record { offset = offset_in r z; id = z.chunk.id }), encode (taken_whole r.kind r.label z (block_of ws))) ≡ leaves given (λ (p : Placed). p.block) ws a) z
          (λ t n. absurd (omega (arith, size_in, bytes-told))) (λ t n u. absurd (omega (arith, size_in, bytes-told)))
          (λ t n u. absurd (omega (arith, size_in, bytes-told))) (λ t. refl))

-- where a part of the chunk is taken
part_of : (ws : List ℕ) (k o n : ℕ) (r : Request) (c : Chosen ws k r) → o ≡ offset_in r c.spot → n ≡ taken r c.spot → n < size_at ws k
    → (P : Reply Given × List ℕ → Type 0)
    → (next_id ws ≡ no_id → P (refused 8, ws))
    → (next_id ws ≢ no_id → slot_count ws < new_slot (block_of ws) → P (refused 9, ws))
    → (next_id ws ≢ no_id → new_slot (block_of ws) ≤ slot_count ws
    → P (accepted (record { offset = o; id = next_id ws }), encode (split_in_two (new_slot (block_of ws)) n r.kind r.label c.spot (block_of ws))))
    → P (placed_on ws r)
unfolding split_in_two block_of
part_of ws k o n r c offset bytes part P none_left none_empty piece =
    rw (opened ws k r c)
    (answers r (block_of ws) (λ a. P (leaves given (λ (p : Placed). p.block) ws a)) c.spot
    (λ t e. none_left e) (λ t e s. none_empty e s) (λ t e s. rw (offset, bytes) at (piece e s))
    (λ t. absurd (omega (arith, size_in ws k r c))))

module _ (ws : List ℕ) (k o n : ℕ) (r : Request) (m : Measured ws k o n r) where
  abbrev c : Chosen ws k r
  c = m.chosen

  abbrev lowest : ℕ
  lowest = new_slot (block_of ws)

  -- id is what the code reads, the next id
  module _ (id : ℕ) (is-next : id ≡ next_id ws) where
    pub no_id_left : id ≡ no_id → (refused 8, ws) ≡ placed_on ws r
    no_id_left e =
        let last : next_id ws ≡ no_id = sym is-next ∙ e in
        part_of ws k o n r c m.offset m.bytes m.part (λ a. (refused 8, ws) ≡ a) (λ q. refl) (λ q u. absurd (q last))
        (λ q u. absurd (q last))

    module _ (more : id ≢ no_id) (sought : std.Option ℕ) (is-sought : sought ≡ within (slot_count ws) lowest) where
      -- no slot is empty
      pub no_slot_left : (q : Refusal) → Err q ≡ ok_or sought NoSlot
          → (refused (number_of q), ws) ≡ placed_on ws r
      no_slot_left q e =
          let f = none_found NoSlot sought e in
          rw f.1
          (part_of ws k o n r c m.offset m.bytes m.part (λ a. (refused 9, ws) ≡ a) (λ q. absurd (more (is-next ∙ q))) (λ q v. refl)
          (λ q v. absurd (omega (arith, not_within (slot_count ws) lowest (sym is-sought ∙ f.0)))))

      -- the lowest one is
      module _ (new : ℕ) (found : Ok new ≡ ok_or sought NoSlot) where
        is-empty : (lowest ≡ new) × (lowest ≤ slot_count ws)
        is-empty = is_within (slot_count ws) lowest new (sym is-sought ∙ one_found NoSlot sought found)

        pub splits : id < 2 ^ 64 → CanSplit ws k new n
        unfolding block_of
        splits t =
            let z = size_in ws k r c in
            let u = is-empty in
            let l = (new_slot-empty (block_of ws) u.1).0 in (
              slot-in ws k r c,
              (omega arith, omega arith),
              previous-within c.place.place,
              omega (arith, m.part),
              omega (arith, m.part, in_block ws k r c, first-in ws k r c),
              omega (arith, m.part, live-bytes ws k r c),
              omega arith,
            )

        new-unused : NoneIn ws new
        unfolding block_of
        new-unused = let u = is-empty in subst (NoneIn ws) u.0 (new_slot-empty (block_of ws) u.1).1

        pub piece : (mark : Mark) → mark ≡ mark_of r → (ws' : List ℕ)
            → ((z : Spot) → FreeIn ws k z → NoneIn ws new → mark.kind ≢ 0
            → ws' ≡ encode (split_in_two new n mark.kind mark.label z (block_of ws)))
            → (accepted (record { offset = o; id = id }), ws') ≡ placed_on ws r
        piece mark i ws' split =
            let w = split c.spot c.place new-unused (λ z. kind-live ws k r c (ap (λ (m : Mark). m.kind) (sym i) ∙ z)) in
            let u = is-empty in
            rw (w, i, is-next, ← u.0)
            (part_of ws k o n r c m.offset m.bytes m.part (λ a. (accepted (record { offset = o; id = next_id ws }), encode (split_in_two lowest n r.kind r.label c.spot (block_of ws))) ≡ a)
            (λ q. absurd (more (is-next ∙ q))) (λ q v. absurd (omega (arith, u.1))) (λ q v. refl))

-- ---- the call

module _ (ws : List ℕ) (r : Request) where
  -- a table that is not looked into
  pub no_block : (q : Refusal) → number_of q ≡ table_fault ws → (refused (number_of q), ws) ≡ allocate_on ws r
  unfolding allocate_on
  no_block q e = ap (λ (a : Reply Placed). leaves given (λ (p : Placed). p.block) ws a) (turned-away ws (place r) q e)

  module _ (t : is_table ws ≡ true) (s : sound ws ≡ true) where
    on-request : allocate_on ws r ≡ leaves given (λ (p : Placed). p.block) ws (place r (block_of ws))
    unfolding allocate_on
    on-request = rw (on-block ws (place r) t s)

    pub ill_formed : (q : Refusal) → number_of q ≡ fault r → (refused (number_of q), ws) ≡ allocate_on ws r
    unfolding place
    ill_formed q e = rw e (go (fault r) (λ (z : fault r ≡ 0). number-positive q (e ∙ z)) ∙ sym on-request)
      where
        go : (f : ℕ) → f ≢ 0 → (refused f, ws) ≡ leaves given (λ (p : Placed). p.block) ws (unless_fault f (place_in r (block_of ws) (chosen r (block_of ws))))
        go zero n = absurd (n refl)
        go (suc f) n = refl

    -- a well-formed request goes into the chunk that is chosen
    module _ (formed : fault r ≡ 0) (sought : std.Option ℕ) (is-sought : sought ≡ some_slot (best_slot ws r)) where
      pub on_chosen : placed_on ws r ≡ allocate_on ws r
      unfolding place placed_on
      on_chosen = sym (on-request ∙ rw formed)

      -- if there is one
      pub no_room : (q : Refusal) → Err q ≡ ok_or sought NoRoom → (refused (number_of q), ws) ≡ allocate_on ws r
      unfolding placed_on
      no_room q e =
          let f = none_found NoRoom sought e in
          rw f.1 (sym (sym on_chosen ∙ rw (best_none ws s r (no_slot (best_slot ws r) (sym is-sought ∙ f.0)))))

      pub chosen_in : (k : ℕ) → Ok k ≡ ok_or sought NoRoom → Chosen ws k r
      chosen_in k e =
          let f = one_slot (best_slot ws r) k (sym is-sought ∙ one_found NoRoom sought e) in
          let b = best-some ws s r (λ (z : best_slot ws r ≡ 0). f.1 (sym f.0 ∙ z)) in
          record {
            table = t;
            sound = s;
            formed = formed;
            spot = b.0;
            chosen = b.1;
            place = record { place = subst (λ (j : ℕ). InSlot ws j b.0) f.0 b.2; free = b.3; unnamed = b.4 };
          }
