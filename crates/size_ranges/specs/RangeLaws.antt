-- What the tests of a block's size say, and that adjusted sizes pass them. Assumes nothing.
use Rattle.std.specs.Prelude.{ℕ, ◌*◌, ◌%◌, ◌^◌, ◌≤◌, ◌<◌, max, Bool, true, ◌&&◌, ◌≡◌, refl, leb, eqb}
use Rattle.std.proofs.Math.Decide.{dec_le}
use Rattle.std.proofs.Common.{le_antisymm, arith, subst, leb-true, eqb-true, le-leb, eq-eqb}
use Rattle.laws.specs.Rounding.{LeastMultiple}
use Rattle.laws.proofs.Rounding.{up_least}
use Rattle.laws.specs.Tests.{both}
use Rattle.size_ranges.specs.SizeRanges.{MiB, clamp, adjust, is_block_size, is_range}

-- An adjusted size is the least multiple of 4 MiB at or above the clamped size.
pub adjust-least : (size : ℕ) → LeastMultiple (clamp size) (4 * MiB) (adjust size)
unfolding adjust
adjust-least size = up_least (clamp size) (omega arith)

-- ---- what the tests say

-- a multiple of 4 MiB from 4 MiB to 256 MiB
pub record IsBlockSize (n : ℕ) : Type 0 where
  low : 4 * MiB ≤ n
  high : n ≤ 256 * MiB
  whole : n % (4 * MiB) ≡ 0

-- two block sizes in order
pub record Range (least most : ℕ) : Type 0 where
  pub from : IsBlockSize least
  pub to : IsBlockSize most
  ordered : least ≤ most

-- the three tests of a size, before they have a name
block_size_tests : {n : ℕ} → leb (4 * MiB) n && (leb n (256 * MiB) && eqb (n % (4 * MiB)) 0) ≡ true → IsBlockSize n
block_size_tests {n} e =
    let p = both (leb (4 * MiB) n) (leb n (256 * MiB) && eqb (n % (4 * MiB)) 0) e in
    let q = both (leb n (256 * MiB)) (eqb (n % (4 * MiB)) 0) p.1 in
    record { low = leb-true _ _ p.0; high = leb-true _ _ q.0; whole = eqb-true _ _ q.1 }

-- and the three of a range, where the sizes' tests are a and b
range_tests : {least most : ℕ} (a b : Bool) → a && (b && leb least most) ≡ true → (a ≡ true → IsBlockSize least) → (b ≡ true → IsBlockSize most) → Range least most
range_tests {least} {most} a b e f g =
    let p = both a (b && leb least most) e in
    let q = both b (leb least most) p.1 in
    record { from = f p.0; to = g q.0; ordered = leb-true _ _ q.1 }

size_told : {n : ℕ} → is_block_size n ≡ true → IsBlockSize n
unfolding is_block_size
size_told e = block_size_tests e

size_tested : {n : ℕ} → IsBlockSize n → is_block_size n ≡ true
unfolding is_block_size
size_tested {n} b = rw (le-leb (4 * MiB) n b.low, le-leb n (256 * MiB) b.high, eq-eqb (n % (4 * MiB)) 0 b.whole)

pub range-told : {least most : ℕ} → is_range least most ≡ true → Range least most
unfolding is_range is_block_size
range-told e = range_tests _ _ e block_size_tests block_size_tests

pub range-tested : {least most : ℕ} → Range least most → is_range least most ≡ true
unfolding is_range is_block_size
range-tested {least} {most} r =
    rw (le-leb (4 * MiB) least r.from.low, le-leb least (256 * MiB) r.from.high, eq-eqb (least % (4 * MiB)) 0 r.from.whole, le-leb (4 * MiB) most r.to.low, le-leb most (256 * MiB) r.to.high, eq-eqb (most % (4 * MiB)) 0 r.to.whole, le-leb least most r.ordered)

pub range-least : (least most : ℕ) → is_range least most ≡ true → least ≤ 256 * MiB
unfolding is_range is_block_size
range-least least most e = (range_tests {least = least} {most = most} _ _ e block_size_tests block_size_tests).from.high

-- ---- what adjusting gives

-- what is rounded up to 4 MiB is a block size
rounded : (size : ℕ) {a : ℕ} → LeastMultiple (clamp size) (4 * MiB) a → IsBlockSize a
rounded size l = record { low = omega (arith, l.above); high = l.least (256 * MiB) refl (omega arith); whole = l.multiple }

-- and a block size is rounded to itself
rounded-settled : {n a : ℕ} → LeastMultiple (clamp n) (4 * MiB) a → IsBlockSize n → a ≡ n
rounded-settled {n} l b =
    let c : clamp n ≡ n = omega (arith, b.low, b.high) in
    le_antisymm (l.least n b.whole (omega arith)) (omega (arith, l.above))

-- an adjusted size is a block size
adjusted : (size : ℕ) → IsBlockSize (adjust size)
unfolding adjust
adjusted size = rounded size (up_least (clamp size) (omega arith))

-- a new pair: the maximum begins as the minimum
pub fixed : (size : ℕ) → Range (adjust size) (adjust size)
unfolding adjust
fixed size =
    let b : IsBlockSize (adjust size) = rounded size (up_least (clamp size) (omega arith)) in
    record { from = b; to = b; ordered = omega arith }

one_of : (P : ℕ → Type 0) (a b : ℕ) → P a → P b → P (max a b)
one_of P a b p q = go (dec_le a b)
  where
    go : Dec (a ≤ b) → P (max a b)
    go (yes l) = subst P (omega arith) q
    go (no n) = subst P (omega arith) p

-- a new maximum keeps a range
pub widened : {least most : ℕ} (size : ℕ) → Range least most → Range least (max (adjust size) least)
unfolding adjust
widened {least} size r = record {
  from = r.from;
  to = one_of IsBlockSize (adjust size) least (rounded size (up_least (clamp size) (omega arith))) r.from;
  ordered = omega arith;
}

-- a block size is adjusted already
pub settled : {n : ℕ} → IsBlockSize n → adjust n ≡ n
unfolding adjust
settled {n} b = rounded-settled (up_least (clamp n) (omega arith)) b

-- a range's own maximum, set again, is that maximum
pub topped : {least most : ℕ} → Range least most → max (adjust most) (adjust least) ≡ most
unfolding adjust
topped {least} {most} r =
    let a : adjust least ≡ least = rounded-settled (up_least (clamp least) (omega arith)) r.from in
    let b : adjust most ≡ most = rounded-settled (up_least (clamp most) (omega arith)) r.to in
    let o = r.ordered in
    omega arith

-- a block size is a number of 64 bits
pub word : {n : ℕ} → IsBlockSize n → n < 2 ^ 64
word b = let h = b.high in omega arith
