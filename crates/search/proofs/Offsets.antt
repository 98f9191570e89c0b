-- The offset of a request in a free chunk: the ways to it, and that it is no less than the first byte and no number on
-- the way is too large for a 64-bit word. Assumes nothing.
use Rattle.std.proofs.Common.{◌≡◌, ℕ, ◌+◌, ◌-◌, ◌^◌, ◌<◌, ◌≤◌, Bool, true, false, List, sym, refl, ◌∙◌, le_trans, arith, pow_mono, le-leb}
use borrow.Author.Tests.{lt-leb}
use Rattle.laws.specs.Powers.{Pow2, pow2_pos, pow2_divides}
use Rattle.laws.specs.Rounding.{align_up}
use Rattle.laws.proofs.Rounding.{up_least}
use Rattle.laws.specs.Tests.{cond_cases}
use Rattle.pages.specs.Pages.{is_power_of_two, power_of_two}
use Rattle.pages.specs.Vulkan.{Resource, may_stand}
use Rattle.model.specs.Block.{largest_block}
use Rattle.model.specs.Placing.{Request, fault, asked, raised, offset_at, taken_at, fits_at}
use Rattle.model.specs.Requests.{Words}
use Rattle.table.specs.Layout.{size_at, first_byte_at}
use Rattle.words.specs.Words.{sound}
use Rattle.sub_allocator.specs.Requests.{fault-free}
use Rattle.search.specs.Held.{HeldIn, in_bytes}

-- ---- rounding up

-- a power of two that fits a 64-bit word is at most 2^63, and divides it
record Power (a : ℕ) : Type 0 where
  two : Pow2 a
  top : a ≤ 2 ^ 63

power : {a : ℕ} → a < 2 ^ 64 → is_power_of_two a ≡ true → Power a
power {a} l e =
    let p = (power_of_two a l).0 e in
    let k : p.0 ≤ 63 = omega (arith, p.1) in
    record { two = (p.0, p.2); top = rw p.2 (pow_mono k) }

-- 2^63 is a multiple of it, so rounding up stays at or below 2^63
up_top : {x a : ℕ} → x ≤ 2 ^ 63 → Power a → align_up x a ≤ 2 ^ 63
up_top {x} {a} l p =
    (up_least x (pow2_pos p.two)).least (2 ^ 63) (pow2_divides p.two (63, refl) p.top) l

-- what is at or below 2^63 can be rounded up in 64-bit words
rounds : {x a : ℕ} → x ≤ 2 ^ 63 → Power a → x + (a - 1) < 2 ^ 64
rounds l p = omega (arith, p.top, pow2_pos p.two)

-- ---- the offset of a request without a fault, in a chunk of a sound table

module _ (r : Request) (w : Words r) (f : fault r ≡ 0) (begin : ℕ) (low : begin ≤ largest_block) where
  alignment : Power r.alignment
  alignment = power w.alignment (fault-free r f).1

  granularity : Power r.granularity
  granularity = power w.granularity (fault-free r f).2

  start-top : align_up begin r.alignment ≤ 2 ^ 63
  start-top = up_top (omega arith) alignment

  -- The first byte can be rounded up to the alignment,
  pub aligns : (is_power_of_two r.alignment ≡ true) × (begin + (r.alignment - 1) < 2 ^ 64)
  aligns = ((fault-free r f).1, rounds (omega arith) alignment)

  -- then to the granularity.
  pub raises : {o : ℕ} → o ≡ align_up begin r.alignment
      → (is_power_of_two r.granularity ≡ true) × (o + (r.granularity - 1) < 2 ^ 64)
  raises e = ((fault-free r f).2, rounds (rw e start-top) granularity)

  abbrev InReach : ℕ → Type 0
  InReach offset = (begin ≤ offset) × (offset ≤ 2 ^ 63)

  -- the offset is at least the first byte, and at most 2^63
  offset-reach : {o : ℕ} (before : Resource) → o ≡ offset_at r begin before → InReach o
  unfolding offset_at raised
  offset-reach before e =
      let s = (up_least begin (pow2_pos alignment.two)).above in
      rw e
      (cond_cases InReach (may_stand r.granularity before (asked r (align_up begin r.alignment)))
      (λ t. (s, start-top))
      (λ t. (le_trans s (up_least _ (pow2_pos granularity.two)).above, up_top start-top granularity)))

-- In a chunk that is no smaller than the request the padding can be counted, and the request's end too.
pub ends : (r : Request) → Words r → fault r ≡ 0 → (ws : List ℕ) (k : ℕ) → HeldIn ws k → sound ws ≡ true
    → r.size ≤ size_at ws k → (before : Resource) (first o : ℕ) → first ≡ first_byte_at ws k
    → o ≡ offset_at r (first_byte_at ws k) before → (first ≤ o) × (o + r.size < 2 ^ 64)
ends r w f ws k h s l before first o e q =
    let b = in_bytes ws k h.0 h.1 s in
    let p = offset-reach r w f (first_byte_at ws k) (omega arith) before q in
    (omega (arith, p.0), omega (arith, p.1))

module _ (r : Request) (begin : ℕ) (before : Resource) (o : ℕ) (e : o ≡ align_up begin r.alignment)
    (t : Bool) (m : t ≡ may_stand r.granularity before (asked r o)) where
  -- The aligned first byte is clear of the chunk before.
  pub offset-kept : t ≡ true → o ≡ offset_at r begin before
  unfolding offset_at raised
  offset-kept u = rw (← e, sym m ∙ u)

  -- It is not, and is rounded up to the granularity.
  pub offset-raised : t ≡ false → (p : ℕ) → p ≡ align_up o r.granularity → p ≡ offset_at r begin before
  unfolding offset_at raised
  offset-raised u p q = rw (← e, sym m ∙ u) q

-- ---- whether it fits

module _ (r : Request) (begin size : ℕ) (before after : Resource) (o : ℕ) (e : o ≡ offset_at r begin before) where
  -- Padding and size are more than the chunk has.
  pub too_long : size < o - begin + r.size → false ≡ fits_at r begin size before after
  unfolding fits_at taken_at
  too_long l = rw (← e, lt-leb (o - begin + r.size) size l)

  -- They are not: the chunk after tells.
  pub long-enough : o - begin + r.size ≤ size → (t : Bool) → t ≡ may_stand r.granularity (asked r o) after
      → t ≡ fits_at r begin size before after
  unfolding fits_at taken_at
  long-enough l t m = rw (← e, le-leb (o - begin + r.size) size l) m
