-- Demand 3, its second half: after any calls the live ranges are apart, and are the live chunks'. Theorems. Assumes nothing.
use Rattle.std.specs.Prelude.{ℕ, ◌+◌, ◌-◌, ◌≤◌, ◌<◌, ◌≢◌, ◌⊎◌, ◌≡◌, refl}
use Rattle.std.proofs.Common.{arith, inl, inr, sym, ap}
use mathlib.Core.List.{List, [], ◌∷◌, Memᴰ}
use Rattle.laws.specs.Lists.{All, Pairwise, all_at, all_of, pair_at}
use Rattle.laws.specs.Powers.{Pow2, pow2_pos}
use Rattle.laws.specs.Reply.{Reply, accepted, refused}
use Rattle.laws.specs.Rounding.{align_down}
use Rattle.laws.proofs.Rounding.{down_mono}
use Rattle.model.specs.Block.{Block, Spot, largest_block}
use Rattle.model.specs.Choose.{Cut}
use Rattle.model.specs.GivingBack.{release, rename}
use Rattle.model.specs.Holding.{Holding}
use Rattle.model.proofs.Holding.{hold-place, hold-free, hold-rename, hold_fresh}
use Rattle.model.specs.Placing.{Placed, place}
use Rattle.model.proofs.Put.{accepted-formed}
use Rattle.model.specs.Ranges.{DifferentNames}
use Rattle.model.specs.Runs.{Call, allocate, free, rename_to, Range, State, after_place, after_free, after_rename, step, run, begin}
use Rattle.model.specs.Soundness.{Sound}
use Rattle.model.specs.Track.{Before}
use Rattle.model.proofs.Track.{range-of, chunk_of, within}
use Rattle.model.specs.Apart.{Coarse, AllCoarse, In, Apart, Stands}

module _ (G bytes : ℕ) (pg : Pow2 G) where
  hold-step : (c : Call) (s : State) → Holding G bytes s → Coarse G c s.block → Holding G bytes (step c s)
  hold-step (allocate r) s inv h = on (place r s.block) refl
    where
      on : (a : Reply Placed) → place r s.block ≡ a → Holding G bytes (after_place r s a)
      on (refused n) e = inv
      on (accepted p) e = hold-place G bytes pg r s inv (h p e) p e
  hold-step (free id) s inv h = on (release id s.block) refl
    where
      on : (a : Reply Block) → release id s.block ≡ a → Holding G bytes (after_free id s a)
      on (refused n) e = inv
      on (accepted b) e = hold-free G bytes s inv id b e
  hold-step (rename_to id label) s inv h = on (rename id label s.block) refl
    where
      on : (a : Reply Block) → rename id label s.block ≡ a → Holding G bytes (after_rename s a)
      on (refused n) e = inv
      on (accepted b) e = hold-rename G bytes s inv id label b e

  hold-run : (cs : List Call) (s : State) → Holding G bytes s → AllCoarse G cs s → Holding G bytes (run cs s)
  hold-run [] s inv h = inv
  hold-run (c ∷ cs) s inv h = hold-run cs (step c s) (hold-step c s inv h.0) h.1

-- Every byte of a range is in it, from the one at its offset on, as many as its size says.
pub each_byte : (x : Range) (k : ℕ) → k < x.size → In (x.offset + k) x
each_byte x k l = (omega arith, omega arith)

module _ (G : ℕ) (pos : 0 < G) where
  before-pages : (x y : Range) → Before G x y → x.kind ≢ y.kind
      → (p q : ℕ) → In p x → In q y → align_down p G ≢ align_down q G
  before-pages x y b d p q hp hq e =
      let a = b.1 d in
      let u = down_mono {x = p} {y = x.offset + x.size - 1} pos (omega arith) in
      let v = down_mono {x = y.offset} {y = q} pos (omega arith) in
      omega arith

  apart_of : (x y : Range) → x.id ≢ y.id → (x ≡ y) ⊎ (Before G x y ⊎ Before G y x) → Apart G x y
  apart_of x y n (inl e) = absurd (n (ap (λ (u : Range). u.id) e))
  apart_of x y n (inr (inl b)) = record { ids = n; bytes = λ p h k. omega arith; pages = before-pages x y b }
  apart_of x y n (inr (inr b)) = record {
    ids = n;
    bytes = λ p h k. omega arith;
    pages = λ d p q h k e. before-pages y x b (λ f. d (sym f)) q p k h (sym e);
  }

  live-apart : (xs live : List Range) → Pairwise (Before G) xs → ((x : Range) → Memᴰ x live → Memᴰ x xs)
      → Pairwise DifferentNames live → Pairwise (Apart G) live
  live-apart xs [] b k d = tt
  live-apart xs (x ∷ live) b k d = (
    all_of (Apart G x) live (λ y m.
        apart_of x y (all_at (DifferentNames x) live d.0 y m)
        (pair_at (Before G) xs b x y (k x (Memᴰ.head refl)) (k y (Memᴰ.tail m)))),
    live-apart xs live b (λ y m. k y (Memᴰ.tail m)) d.1,
  )

module _ (size slots : ℕ) (some : 1 ≤ size) (most : size ≤ largest_block) (one : 1 ≤ slots) (last : slots ≤ 512) (cs : List Call) where
  -- After any calls on a fresh block, refused ones among them, where every accepted allocation named a granularity of
  -- at least G, a power of two: any two of the ranges that were handed out and not given back have different ids and no
  -- byte in common, and where their kinds differ no byte of the one lies on a page of G bytes with a byte of the other.
  pub ranges_apart : (G : ℕ) → Pow2 G → AllCoarse G cs (begin size slots)
      → Pairwise (Apart G) (run cs (begin size slots)).live
  ranges_apart G pg h =
      let inv = hold-run G size pg cs (begin size slots) (hold_fresh G size slots some most one last) h in
      live-apart G (pow2_pos pg) inv.ranges _ inv.ordered (λ x. (inv.known x).0) inv.distinct

  any : Holding 1 size (run cs (begin size slots))
  any =
      hold-run 1 size (0, refl) cs (begin size slots) (hold_fresh 1 size slots some most one last)
      (every cs (begin size slots))
    where
      granular : (c : Call) (b : Block) → Coarse 1 c b
      granular (allocate r) b = λ p e. pow2_pos (accepted-formed r b p e).granularity
      granular (free id) b = tt
      granular (rename_to id label) b = tt

      every : (ds : List Call) (s : State) → AllCoarse 1 ds s
      every [] s = tt
      every (c ∷ ds) s = (granular c s.block, every ds (step c s))

  -- Whatever the granularities, every such range lies within the block.
  pub ranges-within : All (λ x. x.offset + x.size ≤ size) (run cs (begin size slots)).live
  ranges-within =
      let inside = within size (omega (arith, any.sound.whole, any.size)) any.track in
      all_of (λ x. x.offset + x.size ≤ size) (run cs (begin size slots)).live
      (λ x m. all_at (λ y. y.offset + y.size ≤ size) any.ranges inside x ((any.known x).0 m))

  -- And the block is sound after any calls.
  pub run_sound : Sound (run cs (begin size slots)).block
  run_sound = any.sound

  -- After any calls, whatever the granularities, every live chunk of the block has its range among those that were
  -- handed out and not given back.
  pub live_chunk : (z : Spot) → Cut (run cs (begin size slots)).block.chunks z → z.chunk.kind ≢ 0
      → (x : Range) × Memᴰ x (run cs (begin size slots)).live × Stands x z
  live_chunk z cut n =
      let k = range-of z any.ranges n (rw cut any.track) in (k.0, (any.known k.0).1 k.1, k.2)

  -- And each of those ranges stands in a live chunk of the block.
  pub live-range : (x : Range) → Memᴰ x (run cs (begin size slots)).live
      → (z : Spot) × Cut (run cs (begin size slots)).block.chunks z × (z.chunk.kind ≢ 0) × Stands x z
  live-range x m = chunk_of [] x any.track ((any.known x).0 m)
