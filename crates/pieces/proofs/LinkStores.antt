-- What the store that mends a neighbour's link changes. Assumes nothing.
use Prim.Native.Nat.{ℕ, ◌≤◌, ◌<◌}
use native.Mathlib.Omega.{arith}
use mathlib.Core.List.{List}
use mathlib.Core.Logic.{◌≢◌, ⊎_elim}
use mathlib.Core.Path.{◌≡◌, refl}
use lib.ListN.{length, get_or, set, length-set}
use lib.Seq.{get_or-set_same, get_or-set_other}
use Rattle.laws.specs.Members.{eq_or_not}
use Rattle.table.specs.Layout.{slot_count, first_slot, row}
use Rattle.stores.specs.Stores.{nothing, stored, row-head_set}
use Rattle.pieces.specs.Stores.{next_of_set, previous_of_set, next_of-none, next_of-slot, previous_of_none, previous_of_slot}

-- slot k comes after slot p: that slot is told, or the head where p is 0
pub record NextTold (ws ws' : List ℕ) (p k : ℕ) : Type 0 where
  pub count : length ws' ≡ length ws
  pub head : (n : ℕ) → n < 3 → get_or ws' n 0 ≡ get_or ws n 0
  pub new_first : p ≡ 0 → first_slot ws' ≡ k
  pub same_first : p ≢ 0 → first_slot ws' ≡ first_slot ws
  pub here : p ≢ 0 → row ws' p ≡ set (row ws p) 5 k
  pub others : (i : ℕ) → 1 ≤ i → i ≢ p → row ws' i ≡ row ws i

pub next_told : (ws : List ℕ) (p k : ℕ) → 4 ≤ length ws → p ≤ slot_count ws → NextTold ws (next_of_set ws p k) p k
next_told ws p k n l = ⊎_elim none slot (eq_or_not p 0)
  where
    none : p ≡ 0 → NextTold ws (next_of_set ws p k) p k
    none e =
        rw (next_of-none ws p k e)
        record {
          count = length-set ws 3 k;
          head = λ j q. get_or-set_other ws 3 j k 0 (λ (x : j ≡ 3). omega arith);
          new_first = λ x. get_or-set_same ws 3 k 0 n;
          same_first = λ f. absurd (f e);
          here = λ f. absurd (f e);
          others = λ i q f. row-head_set ws 3 k i (omega arith);
        }

    slot : p ≢ 0 → NextTold ws (next_of_set ws p k) p k
    slot f =
        let o = stored (omega arith, l) (nothing ws p) 5 k (omega arith) in
        rw (next_of-slot ws p k f)
        record {
          count = o.count;
          head = λ j q. o.head j (omega arith);
          new_first = λ x. absurd (f x);
          same_first = λ x. o.head 3 (omega arith);
          here = λ x. o.here;
          others = o.others;
        }

-- slot k comes before slot n: that slot is told, if it is one
pub record PreviousTold (ws ws' : List ℕ) (n k : ℕ) : Type 0 where
  pub count : length ws' ≡ length ws
  pub head : (j : ℕ) → j < 4 → get_or ws' j 0 ≡ get_or ws j 0
  pub here : n ≢ 0 → row ws' n ≡ set (row ws n) 6 k
  pub others : (i : ℕ) → 1 ≤ i → i ≢ n → row ws' i ≡ row ws i

pub previous_told : (ws : List ℕ) (n k : ℕ) → n ≤ slot_count ws → PreviousTold ws (previous_of_set ws n k) n k
previous_told ws n k l = ⊎_elim none slot (eq_or_not n 0)
  where
    none : n ≡ 0 → PreviousTold ws (previous_of_set ws n k) n k
    none e =
        rw (previous_of_none ws n k e)
        record { count = refl; head = λ j q. refl; here = λ f. absurd (f e); others = λ i q f. refl }

    slot : n ≢ 0 → PreviousTold ws (previous_of_set ws n k) n k
    slot f =
        let o = stored (omega arith, l) (nothing ws n) 6 k (omega arith) in
        rw (previous_of_slot ws n k f)
        record { count = o.count; head = o.head; here = λ x. o.here; others = o.others }
