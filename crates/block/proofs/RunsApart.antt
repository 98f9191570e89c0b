-- Demand 3, its second half, on words: after any calls the live ranges are apart, and are the live slots'. Theorems. Assumes nothing.
use Rattle.std.specs.Prelude.{ℕ, ◌+◌, ◌≤◌, true, ◌↔◌, ◌≢◌, ◌≡◌, refl, length}
use Rattle.std.proofs.Common.{arith, sym, ap, subst, ◌∙◌}
use mathlib.Core.List.{List, [], ◌∷◌}
use Rattle.laws.specs.Lists.{All, Pairwise}
use Rattle.laws.specs.Powers.{Pow2}
use Rattle.laws.specs.Reply.{accepted}
use Rattle.model.specs.Apart.{AllCoarse, Apart, Stands}
use Rattle.model.proofs.Apart.{ranges_apart, ranges-within, live_chunk, live-range}
use Rattle.model.specs.Block.{Block, Spot}
use Rattle.model.specs.Choose.{Cut}
use Rattle.model.specs.Runs.{Call, Range, State, step, run, begin}
use Rattle.model.specs.Soundness.{Sound as SoundBlock}
use Rattle.table.specs.Layout.{slot_count, block_size}
use Rattle.words.specs.Words.{encode, sound}
use Rattle.words.specs.Soundness.{Used, Sound}
use Rattle.words.proofs.Laid.{sound-laid, block_back}
use Rattle.words.proofs.Rows.{encode-head}
use Rattle.words.specs.Spots.{InSlot}
use Rattle.words.proofs.Spots.{in_words, written-spot, used-spot, spot-used}
use Rattle.words.proofs.Written.{decode-encode, decode-table}
use Rattle.opening.specs.Creation.{new_on}
use Rattle.opening.proofs.Exactly.{new-accepted}
use Rattle.opening.proofs.NewBlock.{new-table, new-sound}
use Rattle.block.specs.Runs.{WordsState, run_on, begin_on}
use Rattle.block.specs.RunsWritten.{written}
use Rattle.block.proofs.RunsWritten.{step-written, run-written, step_kept, run-kept, begin-written, run_length, run_sound}
use Rattle.block.specs.RunsApart.{AllCoarseOn, StandsIn, LiveSlots}
use Rattle.block.proofs.RunsCoarse.{coarse_written}

-- On the words of a sound block a run does exactly where it does on the block, as a call does (RunsCoarse.antt).
pub all_coarse_written : (G : ℕ) (cs : List Call) (s : State) → SoundBlock s.block
    → AllCoarseOn G cs (written s) ↔ AllCoarse G cs s
all_coarse_written G [] s h = (λ k. tt, λ k. tt)
all_coarse_written G (c ∷ cs) s h =
    let one = coarse_written G c s.block h in
    let many = all_coarse_written G cs (step c s) (step_kept s h c).sound in
    let e = step-written s h c in
    let A = AllCoarseOn G cs in
    (λ k. (one.0 k.0, many.0 (subst A e k.1)), λ k. (one.1 k.0, subst A (sym e) (many.1 k.1)))

module _ (b : Block) (h : SoundBlock b) where
  written-sound : sound (encode b) ≡ true
  written-sound = (decode-table (encode b) b (decode-encode b h)).1

  -- a range that stands in the chunk stands in its slot
  stands-slot : (k : ℕ) (z : Spot) → InSlot (encode b) k z → z.chunk.kind ≢ 0 → (x : Range) → Stands x z
      → StandsIn (encode b) k x
  stands-slot k z i n x s =
      let r = in_words i in
      record {
        used = spot-used (encode b) written-sound k z i;
        live = λ q. n (sym r.kind ∙ q);
        id = s.id ∙ sym r.id;
        kind = s.kind ∙ sym r.kind;
        from = omega (arith, s.from, r.begins);
        to = omega (arith, s.to, r.begins, r.size);
        some = s.some;
      }

  -- each chunk is in its slot, and a used slot is a chunk's
  chunk-slot : (z : Spot) → Cut b.chunks z → InSlot (encode b) z.chunk.slot z
  chunk-slot z cut = written-spot b (sound-laid b h) (encode b) refl z cut z.chunk.slot refl

  slot-chunk : (k : ℕ) → Used (encode b) k → (z : Spot) × Cut b.chunks z × InSlot (encode b) k z
  slot-chunk k u =
      let f = used-spot (encode b) written-sound k u in
      (f.0, rw (block_back b (sound-laid b h)) at f.1.cut, f.1)

-- ---- the demand

module _ (ws : List ℕ) (size : ℕ) (ok : (new_on ws size).0 ≡ accepted tt) (cs : List Call) where
  abbrev first-state : State
  first-state = begin size (slot_count ws)

  -- The run on words is that of the block, written.
  pub words-run : run_on cs (begin_on ws size) ≡ written (run cs (begin size (slot_count ws)))
  words-run = let e = begin-written ws size ok in ap (run_on cs) e.0 ∙ run-written cs first-state e.1

  -- Its accepted allocations name granularities of at least G exactly where the block's do.
  pub words-coarse : (G : ℕ) → AllCoarseOn G cs (begin_on ws size) ↔ AllCoarse G cs (begin size (slot_count ws))
  words-coarse G = let e = begin-written ws size ok in rw e.0 (all_coarse_written G cs first-state e.1)

  -- what is said of the block's run is said of the run on words
  run_ends : (P : WordsState → Type 0) → P (written (run cs first-state)) → P (run_on cs (begin_on ws size))
  run_ends P p = subst P (sym words-run) p

  -- After any calls on a new table, refused ones among them, where every accepted allocation named a granularity of
  -- at least G, a power of two: any two of the ranges that were handed out and not given back have different ids and no
  -- byte in common, and where their kinds differ no byte of the one lies on a page of G bytes with a byte of the other.
  pub words-apart : (G : ℕ) → Pow2 G → AllCoarseOn G cs (begin_on ws size)
      → Pairwise (Apart G) (run_on cs (begin_on ws size)).live
  words-apart G pg h =
      let s = (begin-written ws size ok).1 in
      run_ends (λ s. Pairwise (Apart G) s.live)
      (ranges_apart size (slot_count ws) s.size.0 s.size.1 s.slots.0 s.slots.1 cs G pg
      ((words-coarse G).0 h))

  -- Whatever the granularities, every such range lies within the block.
  pub words-within : All (λ x. x.offset + x.size ≤ size) (run_on cs (begin_on ws size)).live
  words-within =
      let s = (begin-written ws size ok).1 in
      run_ends (λ s. All (λ x. x.offset + x.size ≤ size) s.live)
      (ranges-within size (slot_count ws) s.size.0 s.size.1 s.slots.0 s.slots.1 cs)

  -- They are those of the live slots of the words after the calls.
  pub words-live : LiveSlots (run_on cs (begin_on ws size))
  words-live =
      let s = (begin-written ws size ok).1 in
      let b : Block = (run cs first-state).block in
      let h = (run-kept cs first-state s).sound in
      run_ends LiveSlots record {
        slot = λ x m.
            let l = live-range size (slot_count ws) s.size.0 s.size.1 s.slots.0 s.slots.1 cs x m in
            let z : Spot = l.0 in
            (z.chunk.slot, stands-slot b h z.chunk.slot z (chunk-slot b h z l.1) l.2 x l.3);
        range = λ k u n.
            let f = slot-chunk b h k u in
            let z : Spot = f.0 in
            let live : z.chunk.kind ≢ 0 = (λ q. n ((in_words f.2).kind ∙ q)) in
            let l =
            live_chunk size (slot_count ws) s.size.0 s.size.1 s.slots.0 s.slots.1 cs z f.1 live in
            (l.0, l.1, stands-slot b h k z f.2 live l.0 l.2);
      }

  -- These words are sound, as many as before, and say the same block size.
  pub words-sound : Sound (run_on cs (begin_on ws size)).words
  words-sound =
      let w = ((new-accepted ws size).0 ok).0 in
      run_sound cs (begin_on ws size) (w.0, w.1, w.2, (new-table ws size ok).1 ∙ w.3) (new-sound ws size ok)

  pub words-length : length (run_on cs (begin_on ws size)).words ≡ length ws
  words-length = run_length cs (begin_on ws size) ∙ (new-table ws size ok).1

  pub words_size : block_size (run_on cs (begin_on ws size)).words ≡ size
  words_size =
      run_ends (λ s. block_size s.words ≡ size)
      ((encode-head (run cs first-state).block).0 ∙ (run-kept cs first-state (begin-written ws size ok).1).size)
