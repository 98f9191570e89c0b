-- That the lowest live chunk from an address on is handed out, or the end, in the words of a sound table. Assumes nothing.
use Rattle.std.specs.Prelude.{ℕ, ◌+◌, ◌≤◌, Bool, true, false, not, ◌&&◌, cond, ◌↔◌, ◌≡◌, refl, leb, Option, None, Some}
use Rattle.std.proofs.Common.{le_refl, arith, ⊎_elim, sym, ap, subst, ◌∙◌, leb-true, leb-false}
use mathlib.Core.List.Memᴰ
use mathlib.Core.List.{List, [], ◌∷◌, Memᴰ}
use Rattle.std.proofs.Math.Option as spot
use Rattle.laws.specs.Lists.{All, Pairwise, all_at, pair_at}
use Rattle.laws.specs.Reply.{accepted, not_refused}
use Rattle.laws.specs.Tests.{cond_cases}
use Rattle.model.specs.Block.{Spot, is_free, first, spots, largest_block}
use Rattle.model.specs.GivingBack.{find}
use Rattle.table.specs.Layout.{size_at, first_byte_at}
use Rattle.words.specs.Words.{block_of}
use Rattle.words.specs.Soundness.{Sound}
use Rattle.words.proofs.Checked.{sound-exactly}
use Rattle.opening.specs.Looked.{TableWords, table_exactly}
use Rattle.opening.proofs.Looked.{looked, sound-answered}
use Rattle.search.specs.Held.{held_kind, in_bytes}
use Rattle.leaks.specs.Leaks.{Live, live_of, handed_out, is_from, live_from, leak_on}
use Rattle.leaks.specs.Lives.{lives_of, lives, from, live_at, LiveSlot, Before, lives-slots, slots-lives, lives-rise, lives-sizes, lives-ids}
use Rattle.leaks.specs.Handed.{first_of, LiveFrom, LowestFrom}

-- the first that passes is the first of those that pass
first_found : (address : ℕ) (zs : List Spot) → handed_out (find (is_from address) zs) ≡ first_of (from address (lives_of zs))
first_found address [] = refl
first_found address (z ∷ zs) = any (is_free z.chunk) (first_found address zs)
  where
    live : (t : Bool) (o : spot.Option Spot) (ls : List Live) → handed_out o ≡ first_of ls
        → handed_out (cond t (spot.some z) o) ≡ first_of (cond t (live_of z ∷ ls) ls)
    live true o ls e = refl
    live false o ls e = e

    any : (t : Bool) → handed_out (find (is_from address) zs) ≡ first_of (from address (lives_of zs))
        → handed_out (cond (not t && leb address (first z)) (spot.some z) (find (is_from address) zs))
        ≡ first_of (from address (cond t (lives_of zs) (live_of z ∷ lives_of zs)))
    any true e = e
    any false e = live (leb address (first z)) (find (is_from address) zs) (from address (lives_of zs)) e

-- l is among them, begins at the address or later, and no other that does begins below it
record Lowest (address : ℕ) (ls : List Live) (l : Live) : Type 0 where
  member : Memᴰ l ls
  begins : address ≤ l.first_byte
  lowest : (y : Live) → Memᴰ y ls → address ≤ y.first_byte → l.first_byte ≤ y.first_byte

-- what the first of those from the address on is
abbrev Told : ℕ → List Live → Option Live → Type 0
Told address ls None = (y : Live) → Memᴰ y ls → address ≤ y.first_byte → ⊥
Told address ls (Some l) = Lowest address ls l

module _ (address : ℕ) (x : Live) (ls : List Live) where
  this : All (Before x) ls → address ≤ x.first_byte → Lowest address (x ∷ ls) x
  this h a = record { member = Memᴰ.head refl; begins = a; lowest = λ y m b. below y m }
    where
      below : (y : Live) → Memᴰ y (x ∷ ls) → x.first_byte ≤ y.first_byte
      below y (Memᴰ.head e) = rw e (le_refl _)
      below y (Memᴰ.tail m) = omega (arith, all_at (Before x) ls h y m)

  -- x begins below the address
  module _ (low : (a : address ≤ x.first_byte) → ⊥) where
    other : (P : Live → Type 0) → ((y : Live) → Memᴰ y ls → address ≤ y.first_byte → P y)
        → (y : Live) → Memᴰ y (x ∷ ls) → address ≤ y.first_byte → P y
    other P f y (Memᴰ.head e) b = absurd (low (subst (λ (z : Live). address ≤ z.first_byte) e b))
    other P f y (Memᴰ.tail m) b = f y m b

    later : (o : Option Live) → Told address ls o → Told address (x ∷ ls) o
    later None h = other (λ y. ⊥) h
    later (Some l) h = record {
      member = Memᴰ.tail h.member;
      begins = h.begins;
      lowest = other (λ y. l.first_byte ≤ y.first_byte) h.lowest;
    }

told : (address : ℕ) (ls : List Live) → Pairwise Before ls → Told address ls (first_of (from address ls))
told address [] h = λ y m a. Memᴰ.not-nil m
told address (x ∷ ls) h =
    cond_cases (λ r. Told address (x ∷ ls) (first_of r)) (leb address x.first_byte)
    (λ e. this address x ls h.0 (leb-true _ _ e))
    (λ e.
    later address x ls (λ a. omega (arith, leb-false address x.first_byte e)) (first_of (from address ls))
    (told address ls h.1))

-- ---- on the words of a sound table

-- the end: there is none; a chunk: it is what the lowest of them holds
abbrev HandedOut : List ℕ → ℕ → Option Live → Type 0
HandedOut ws address None = (k : ℕ) → LiveFrom ws address k → ⊥
HandedOut ws address (Some l) = (k : ℕ) × LowestFrom ws address k × (l ≡ live_at ws k)

module _ (ws : List ℕ) (t : TableWords ws) (s : Sound ws) (address : ℕ) where
  in-words-told : (o : Option Live) → Told address (lives ws) o → HandedOut ws address o
  in-words-told None h = λ k f. h (live_at ws k) (slots-lives ws t s k f.0) f.1
  in-words-told (Some l) h =
      let p = all_at _ (lives ws) (lives-slots ws t s) l h.member in
      let e : l.first_byte ≡ first_byte_at ws p.0 = ap (λ (x : Live). x.first_byte) p.2 in (
        p.0,
        (
          (p.1, omega (arith, h.begins)),
          λ j f. omega (arith, h.lowest (live_at ws j) (slots-lives ws t s j f.0) f.1),
        ),
        p.2,
      )

  -- two live chunks with one first byte are one
  one_first : (j k : ℕ) → LiveSlot ws j → LiveSlot ws k → first_byte_at ws j ≡ first_byte_at ws k → live_at ws j ≡ live_at ws k
  one_first j k x y e =
      let m = slots-lives ws t s j x in
      let n = slots-lives ws t s k y in
      let a = all_at (λ l. 1 ≤ l.size) (lives ws) (lives-sizes ws t s) (live_at ws j) m in
      let b = all_at (λ l. 1 ≤ l.size) (lives ws) (lives-sizes ws t s) (live_at ws k) n in
      ⊎_elim (λ q. q) (⊎_elim (λ q. absurd (omega arith)) (λ q. absurd (omega arith)))
      (pair_at Before (lives ws) (lives-rise ws t s) (live_at ws j) (live_at ws k) m n)

  one_told : (o p : Option Live) → HandedOut ws address o → HandedOut ws address p → o ≡ p
  one_told None None h g = refl
  one_told None (Some m) h g = absurd (h g.0 g.1.0)
  one_told (Some l) None h g = absurd (g h.0 h.1.0)
  one_told (Some l) (Some m) h g =
      ap Some
      (h.2
      ∙ one_first h.0 g.0 h.1.0.0 g.1.0.0
      (omega (arith, h.1.1 g.0 g.1.0, g.1.1 h.0 h.1.0))
      ∙ sym g.2)

block-first : (ws : List ℕ) (address : ℕ) → handed_out (live_from address (block_of ws)) ≡ first_of (from address (lives ws))
unfolding live_from lives
block-first ws address = first_found address (spots [] (block_of ws).chunks)

-- On a sound table the first of the live chunks that begin at the address or later is handed out.
pub leak_first : (ws : List ℕ) → TableWords ws → Sound ws → (address : ℕ)
    → leak_on ws address ≡ accepted (first_of (from address (lives ws)))
unfolding leak_on
leak_first ws t s address = sound-answered _ ws t s ∙ ap accepted (block-first ws address)

leak_told : (ws : List ℕ) (address : ℕ) (o : Option Live)
    → leak_on ws address ≡ accepted o ↔ (TableWords ws × Sound ws × HandedOut ws address o)
unfolding leak_on
leak_told ws address o =
    looked (λ b. accepted (handed_out (live_from address b))) ws
    (λ r. r ≡ accepted o ↔ (TableWords ws × Sound ws × HandedOut ws address o))
    (λ n. (λ e. absurd (not_refused (sym e)), λ h. absurd (n h.0)))
    (λ t n. (λ e. absurd (not_refused (sym e)), λ h. absurd (n h.1)))
    (λ t s.
    let f = first_of (from address (lives ws)) in
    let g : HandedOut ws address f = in-words-told ws t s address f (told address (lives ws) (lives-rise ws t s)) in (
      λ e.
          let q : handed_out (live_from address (block_of ws)) ≡ o = cc in
          (t, s, subst (HandedOut ws address) (sym (block-first ws address) ∙ q) g),
      λ h. ap accepted (block-first ws address ∙ one_told ws t s address f o g h.2),
    ))

-- The end is answered exactly when the table is sound, and no slot with a kind other than 0 has its first byte at the address
-- or above.
pub leak_end : (ws : List ℕ) (address : ℕ)
    → leak_on ws address ≡ accepted None ↔ (TableWords ws × Sound ws × ((k : ℕ) → LiveFrom ws address k → ⊥))
leak_end ws address = leak_told ws address None

-- A chunk is handed out exactly when the table is sound, and the chunk is what the lowest of those slots holds.
pub leak_live : (ws : List ℕ) (address : ℕ) (l : Live)
    → leak_on ws address ≡ accepted (Some l)
    ↔ (TableWords ws × Sound ws × ((k : ℕ) × LowestFrom ws address k × (l ≡ live_at ws k)))
leak_live ws address l = leak_told ws address (Some l)

-- What is handed out has an id of at least 1.
pub leak_id : (ws : List ℕ) (address : ℕ) (l : Live) → leak_on ws address ≡ accepted (Some l) → 1 ≤ l.id
leak_id ws address l e =
    let h = (leak_live ws address l).0 e in
    let k = h.2.0 in
    let m = slots-lives ws h.0 h.1 k h.2.1.0.0 in
    subst (λ (x : Live). 1 ≤ x.id) (sym h.2.2)
    (all_at (λ x. 1 ≤ x.id) (lives ws) (lives-ids ws h.0 h.1) (live_at ws k) m)

-- What is handed out ends within 2^40 bytes.
pub leak_within : (ws : List ℕ) (address : ℕ) (l : Live) → leak_on ws address ≡ accepted (Some l)
    → l.first_byte + l.size ≤ largest_block
leak_within ws address l e =
    let h = (leak_live ws address l).0 e in
    let k = h.2.0 in
    let sd = (sound-exactly ws ((table_exactly ws).1 h.0)).1 h.1 in
    let z = held_kind ws sd k h.2.1.0.0.0 h.2.1.0.0.1 in
    let b = in_bytes ws k z.0 z.1 sd in
    let x : l.first_byte ≡ first_byte_at ws k = ap (λ (y : Live). y.first_byte) h.2.2 in
    let y : l.size ≡ size_at ws k = ap (λ (y : Live). y.size) h.2.2 in
    omega arith
