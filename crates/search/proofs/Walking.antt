-- The search for the best chunk, as it goes from a held slot to the next. Assumes nothing.
use Rattle.std.proofs.Common.{◌≡◌, ◌≢◌, ℕ, ◌+◌, ◌-◌, ◌^◌, ◌<◌, true, false, MatchOption, Option, Some, None, sym, subst, refl, arith}
use Rattle.model.specs.Block.{largest_block}
use Rattle.model.specs.Placing.{Request}
use Rattle.table.specs.Layout.{first_slot, size_at, next_at}
use Rattle.words.proofs.Spots.{used-spot}
use Rattle.words.specs.declared.sound.SoundTable.{SoundTable}
use Rattle.search.specs.declared.held.Held.{Held}
use Rattle.search.specs.Along.{ahead, ahead-falls}
use Rattle.search.specs.Best.{best_slot, better_at}
use Rattle.search.specs.Slots.{some_slot}
use Rattle.search.proofs.Searching.{Searching, begin, done, go-better, go-worse}

-- the slot that is looked at next, 0 where none is left
abbrev pub slot_of_next : Option Held → ℕ
slot_of_next None = 0
slot_of_next (Some h) = h.slot

-- it is one of the table
abbrev pub OfTable : SoundTable → Option Held → Type 0
OfTable t None = Unit {0}
OfTable t (Some h) = h.table ≡ t

pub record Walking (t : SoundTable) (r : Request) (next : Option Held) (best : Option ℕ) (spare : ℕ) : Type 0 where
  pub of_table : OfTable t next
  pub searching : Searching t.words.now r (slot_of_next next) best spare

-- what `next` and `first` say of the chunk in slot j
abbrev pub Reached : SoundTable → ℕ → Option Held → Type 0
Reached t j n = MatchOption n (j ≡ 0) (λ h. (h.table ≡ t) × (h.slot ≡ j))

reached : (t : SoundTable) (j : ℕ) (n : Option Held) → Reached t j n → (j ≡ slot_of_next n) × OfTable t n
reached t j None h = (h, tt)
reached t j (Some x) h = (sym h.1, h.0)

to : (t : SoundTable) (r : Request) (j : ℕ) (n : Option Held) (best : Option ℕ) (spare : ℕ) → Reached t j n
    → Searching t.words.now r j best spare → Walking t r n best spare
to t r j n best spare h s =
    let e = reached t j n h in
    record { of_table = e.1; searching = subst (λ (i : ℕ). Searching t.words.now r i best spare) e.0 s }

pub start : (t : SoundTable) (r : Request) (n : Option Held) (spare : ℕ) → Reached t (first_slot t.words.now) n
    → largest_block < spare + r.size → spare + r.size < 2 ^ 64 → Walking t r n None spare
start t r n spare h l m = to t r (first_slot t.words.now) n None spare h (begin t.words.now r _ spare t.sound refl l m)

pub ended : (t : SoundTable) (r : Request) (n : Option Held) (best : Option ℕ) (spare : ℕ) → n ≡ None
    → Walking t r n best spare → best ≡ some_slot (best_slot t.words.now r)
ended t r None best spare e w = done t.words.now t.sound r 0 best spare w.searching refl
ended t r (Some h) best spare e w = absurd cc

-- what is left of the addresses
abbrev pub left_of : SoundTable → Option Held → ℕ
left_of t n = ahead t.words.now (slot_of_next n)

module _ (r : Request) (h : Held) (best : Option ℕ) (spare : ℕ) (n : Option Held) (reach : Reached h.table (next_at h.table.words.now h.slot) n) where
  used : h.slot ≢ 0
  used = λ z. omega (arith, h.held.0.0)

  falls-here : left_of h.table n < left_of h.table (Some h)
  falls-here =
      rw (← (reached h.table _ n reach).0)
      (ahead-falls h.table.words.now h.table.sound h.slot (used-spot _ h.table.sound _ h.held) used)

  pub falls : (t : SoundTable) (o : Option Held) → o ≡ Some h → OfTable t o → left_of t n < left_of t o
  falls t o e w =
      subst (λ (o : Option Held). left_of t n < left_of t o) (sym e)
      (subst (λ (t : SoundTable). left_of t n < left_of t (Some h)) (subst (OfTable t) e w) falls-here)

  -- A step that is right in the table of the chunk is right in the table that is searched.
  along : (b : Option ℕ) (s : ℕ) → (Walking h.table r (Some h) best spare → Walking h.table r n b s)
      → (t : SoundTable) (o : Option Held) → o ≡ Some h → Walking t r o best spare → Walking t r n b s
  along b s step t o e w =
      let v = subst (λ (o : Option Held). Walking t r o best spare) e w in
      subst (λ (t : SoundTable). Walking t r (Some h) best spare → Walking t r n b s) v.of_table step v

  -- A chunk that is not better is passed over.
  pub passed_over : better_at h.table.words.now h.slot (spare + r.size) r ≡ false
      → (t : SoundTable) (o : Option Held) → o ≡ Some h → Walking t r o best spare → Walking t r n best spare
  passed_over b =
      along best spare
      (λ v. to h.table r _ n best spare reach
      (go-worse h.table.words.now h.table.sound r h.slot best spare v.searching used b))

  -- A better one is noted.
  pub noted : better_at h.table.words.now h.slot (spare + r.size) r ≡ true
      → (size : ℕ) → size ≡ size_at h.table.words.now h.slot
      → (t : SoundTable) (o : Option Held) → o ≡ Some h → Walking t r o best spare
      → Walking t r n (Some h.slot) (size - r.size)
  noted b size d =
      along (Some h.slot) (size - r.size)
      (λ v. to h.table r _ n (Some h.slot) (size - r.size) reach
      (go-better h.table.words.now h.table.sound r h.slot best spare v.searching used b size d))
