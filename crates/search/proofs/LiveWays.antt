-- The ways out of the search for a live chunk. Assumes nothing.
use Rattle.std.proofs.Common.{◌≡◌, ℕ, ◌<◌, ◌≤◌, true, ◌≢◌, List, [], get_or, sym, refl, ap, ◌∙◌, arith, eq-eqb, ne_eqb}
use mathlib.Core.List.{Memᴰ}
use mathlib.Core.Option.{Option, none, some}
use Rattle.model.specs.Block.{Spot, spots}
use Rattle.model.specs.Choose.{Found}
use Rattle.model.proofs.Choose.{found, cut-of_spot, spot-of_cut}
use Rattle.model.specs.GivingBack.{is_live, find_live}
use Rattle.table.specs.Layout.{is_table, slot_count, Slot, id_at, kind_at}
use Rattle.words.specs.Words.{block_of, sound}
use Rattle.words.specs.Soundness.{Used}
use Rattle.words.proofs.Checked.{sound-exactly}
use Rattle.words.proofs.Spots.{sound-spot, in_table, in_words, in_all}
use Rattle.words.proofs.Written.{known}
use Rattle.search.specs.Found.{slot_of_spot}
use Rattle.search.specs.Held.{held_kind}
use Rattle.search.specs.Live.{live_slot, live_chunk}
use Rattle.search.specs.Scan.{slot_with, LowestWith, lowest_with}

module _ (ws : List ℕ) (t : is_table ws ≡ true) (s : sound ws ≡ true) (id : ℕ) where
  abbrev all : List Spot
  all = spots [] (block_of ws).chunks

  -- what is known of a live chunk with the id
  record Lives (z : Spot) : Type 0 where
    place : Slot ws z.chunk.slot
    id-word : id_at ws z.chunk.slot ≡ id
    kind-word : kind_at ws z.chunk.slot ≢ 0
    id-low : 1 ≤ id

  lives : (z : Spot) → Memᴰ z all → is_live id z ≡ true → Lives z
  lives z m e =
      let cut = cut-of_spot (block_of ws).chunks z m in
      let h = sound-spot ws s z cut in
      let w = in_words h in
      let l = live_chunk id z e in
      let i = in_all h (λ c. (1 ≤ c.id) × (c.id < (block_of ws).next)) (known ws s).block.ids in
      record {
        place = in_table ws z.chunk.slot z h;
        id-word = w.id ∙ l.0;
        kind-word = λ q. l.1 (sym w.kind ∙ q);
        id-low = omega (arith, l.0, i.0);
      }

  used : (k : ℕ) → Slot ws k → 1 ≤ id_at ws k → Used ws k
  used k p l = (p, λ e. let z : id_at ws k ≡ 0 = ap (λ (l : List ℕ). get_or l 0 0) e in omega arith)

  -- it is in any slot with the id
  one_slot_lem : (z : Spot) → Lives z → (k : ℕ) → Slot ws k → id_at ws k ≡ id → z.chunk.slot ≡ k
  one_slot_lem z h k p e =
      ((sound-exactly ws t).0 s).distinct z.chunk.slot k (used z.chunk.slot h.place (omega (arith, h.id-word, h.id-low)))
      (used k p (omega (arith, h.id-low))) (h.id-word ∙ sym e)

  -- the scan answered k
  module _ (k : ℕ) (e : k ≡ slot_with ws id) where
    low : LowestWith ws id (slot_count ws) 1 k
    low = rw e (lowest_with ws id)

    -- No slot has the id.
    pub no_slot : slot_count ws < k → 0 ≡ live_slot ws id
    unfolding live_slot
    no_slot l = go (find_live id (block_of ws)) (found (is_live id) all)
      where
        go : (o : Option Spot) → Found (is_live id) all o → 0 ≡ slot_of_spot o
        go none h = refl
        go (some z) h =
            let x = lives z h.0 h.1 in
            absurd (low.below z.chunk.slot x.place.0 (omega (arith, x.place.1)) x.id-word)

    module _ (l : k ≤ slot_count ws) where
      -- The table has the slot.
      pub in_range : Slot ws k
      in_range = (low.from, l)

      with-id : id_at ws k ≡ id
      with-id = low.has (omega arith)

      -- It is a free chunk's, or id 0 and an empty slot's.
      pub free-slot : kind_at ws k ≡ 0 → 0 ≡ live_slot ws id
      unfolding live_slot
      free-slot q = go (find_live id (block_of ws)) (found (is_live id) all)
        where
          go : (o : Option Spot) → Found (is_live id) all o → 0 ≡ slot_of_spot o
          go none h = refl
          go (some z) h =
              let x = lives z h.0 h.1 in
              absurd (x.kind-word (ap (kind_at ws) (one_slot_lem z x k in_range with-id) ∙ q))

      -- It is a live chunk's.
      pub live-slot : kind_at ws k ≢ 0 → k ≡ live_slot ws id
      unfolding live_slot
      live-slot n = go (find_live id (block_of ws)) (found (is_live id) all)
        where
          go : (o : Option Spot) → Found (is_live id) all o → k ≡ slot_of_spot o
          go none h =
              let y = held_kind ws s k in_range n in
              let w = in_words y.1 in
              let kind : y.0.chunk.kind ≢ 0 = (λ e. n (w.kind ∙ e)) in
              absurd (h y.0 (spot-of_cut (block_of ws).chunks y.0 y.1.cut)
              (rw (eq-eqb _ _ (sym w.id ∙ with-id), ne_eqb _ _ kind)))
          go (some z) h = sym (one_slot_lem z (lives z h.0 h.1) k in_range with-id)
