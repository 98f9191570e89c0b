-- A number in decimal digits. Assumes nothing.
use Rattle.std.specs.Prelude.{ℕ, zero, suc, ◌+◌, ◌-◌, ◌*◌, ◌/◌, ◌%◌, ◌^◌, ◌≤◌, ◌<◌, ◌≡◌, refl, cond, ltb, length, get_or}
use Rattle.std.proofs.Common.{sym, ap, ◌∙◌, ⊎_elim, arith, length-append, lt-ltb, le-ltb}
use mathlib.Core.List.Memᴰ
use mathlib.Core.List.{List, [], ◌∷◌, ◌++◌, Memᴰ}
use Rattle.std.proofs.Math.ListN.{get_or-append}
use Rattle.laws.specs.Powers.{fewer}
use Rattle.laws.specs.Tests.{either}

-- the byte of a digit
abbrev pub digit : ℕ → ℕ
digit d = 48 + d

-- n in at most k places
unfoldable pub decimal_in : ℕ → ℕ → List ℕ
decimal_in zero n = []
decimal_in (suc k) n = cond (ltb n 10) (digit n ∷ []) (decimal_in k (n / 10) ++ (digit (n % 10) ∷ []))

-- n below 10 ^ 20, so every n of 64 bits
unfoldable pub decimal : ℕ → List ℕ
decimal n = decimal_in 20 n

-- ---- how the digits go on
-- below ten one digit, and else those of the tenth and the last
small : (k n : ℕ) → n < 10 → decimal_in (suc k) n ≡ digit n ∷ []
unfolding decimal_in
small k n h = rw (lt-ltb n 10 h)

large : (k n : ℕ) → 10 ≤ n → decimal_in (suc k) n ≡ decimal_in k (n / 10) ++ (digit (n % 10) ∷ [])
unfolding decimal_in
large k n h = rw (le-ltb n 10 h)

-- Places beyond those that are needed change nothing.
enough : (k n : ℕ) → n < 10 ^ suc k → decimal_in (suc (suc k)) n ≡ decimal_in (suc k) n
enough zero n h = small 1 n (omega arith) ∙ sym (small 0 n (omega arith))
enough (suc k) n h =
    either _ n 10 (λ l. small (suc (suc k)) n l ∙ sym (small (suc k) n l))
    (λ l. large (suc (suc k)) n l ∙ ap (λ s. s ++ (digit (n % 10) ∷ [])) (enough k (n / 10) (fewer 10 (suc k) n (omega arith) h)) ∙ sym (large (suc k) n l))

-- A number below ten is its digit.
pub decimal-small : (n : ℕ) → n < 10 → decimal n ≡ digit n ∷ []
unfolding decimal
decimal-small n h = small 19 n h

-- A larger number is its tenth, and then its last digit.
pub decimal-large : (n : ℕ) → 10 ≤ n → n < 10 ^ 20 → decimal n ≡ decimal (n / 10) ++ (digit (n % 10) ∷ [])
unfolding decimal
decimal-large n h b = large 19 n h ∙ ap (λ s. s ++ (digit (n % 10) ∷ [])) (sym (enough 18 (n / 10) (fewer 10 19 n (omega arith) b)))

-- ---- what the digits say
-- what bytes say that go on after the number x: ten times it and the digit, for each
unfoldable pub value_from : ℕ → List ℕ → ℕ
value_from x [] = x
value_from x (b ∷ s) = value_from (x * 10 + (b - 48)) s

abbrev pub value_of : List ℕ → ℕ
value_of s = value_from 0 s

-- With more bytes it only grows.
pub value_grows : (x : ℕ) (s : List ℕ) → x ≤ value_from x s
unfolding value_from
value_grows x [] = omega arith
value_grows x (b ∷ s) = omega (arith, value_grows (x * 10 + (b - 48)) s)

-- One byte more at the end.
value_last : (x : ℕ) (s : List ℕ) (b : ℕ) → value_from x (s ++ (b ∷ [])) ≡ value_from x s * 10 + (b - 48)
unfolding value_from
value_last x [] b = refl
value_last x (a ∷ s) b = value_last (x * 10 + (a - 48)) s b

value_one : (n : ℕ) → value_of (digit n ∷ []) ≡ n
unfolding value_from
value_one n = omega arith

reads : (k n : ℕ) → n < 10 ^ k → value_of (decimal_in k n) ≡ n
unfolding value_from decimal_in
reads zero n h = omega arith
reads (suc k) n h =
    either _ n 10 (λ l. ap value_of (small k n l) ∙ value_one n)
    (λ l. ap value_of (large k n l) ∙ value_last 0 (decimal_in k (n / 10)) (digit (n % 10)) ∙ omega (arith, reads k (n / 10) (fewer 10 k n (omega arith) h)))

-- The digits read back as the number.
pub decimal-reads : (n : ℕ) → n < 10 ^ 20 → value_of (decimal n) ≡ n
unfolding decimal
decimal-reads n h = reads 20 n h

starts : (k n : ℕ) → 0 < length (decimal_in (suc k) n)
starts k n = either _ n 10 (λ l. rw (small k n l) (omega arith)) (λ l. rw (large k n l, length-append) (omega arith))

leads : (k n : ℕ) → n < 10 ^ k → get_or (decimal_in k n) 0 0 ≡ 48 → n ≡ 0
leads zero n h e = omega arith
leads (suc zero) n h e = omega (arith, rw (small 0 n (omega arith)) at e)
leads (suc (suc k)) n h e =
    either _ n 10 (λ l. omega (arith, rw (small (suc k) n l) at e))
    (λ l.
    let same : get_or (decimal_in (suc k) (n / 10)) 0 0 ≡ 48 =
    sym (get_or-append (decimal_in (suc k) (n / 10)) (digit (n % 10) ∷ []) 0 0 (starts k (n / 10))) ∙ (rw (large (suc k) n l) at e) in
    omega (arith, leads (suc k) (n / 10) (fewer 10 (suc k) n (omega arith) h) same))

-- No zero leads: a first byte "0" is the number 0.
pub decimal-leads : (n : ℕ) → n < 10 ^ 20 → get_or (decimal n) 0 0 ≡ 48 → n ≡ 0
unfolding decimal
decimal-leads n h = leads 20 n h

bytes : (k n b : ℕ) → Memᴰ b (decimal_in k n) → (48 ≤ b) × (b ≤ 57)
unfolding decimal_in
bytes zero n b m = absurd (Memᴰ.not-nil m)
bytes (suc k) n b m =
    either _ n 10 (λ l. let e : b ≡ digit n = Memᴰ.eq_of_singleton (rw (small k n l) at m) in omega arith)
    (λ l. ⊎_elim (λ p. bytes k (n / 10) b p) (λ p. let e : b ≡ digit (n % 10) = Memᴰ.eq_of_singleton p in omega arith)
    (Memᴰ.append_cases (decimal_in k (n / 10)) (rw (large k n l) at m)))

-- Every byte is a digit, from "0" to "9".
pub decimal-bytes : (n b : ℕ) → Memᴰ b (decimal n) → (48 ≤ b) × (b ≤ 57)
unfolding decimal
decimal-bytes n b m = bytes 20 n b m

short : (j k n : ℕ) → n < 10 ^ suc j → length (decimal_in k n) ≤ suc j
unfolding decimal_in
short j zero n h = omega arith
short zero (suc k) n h = rw (small k n (omega arith)) (omega arith)
short (suc j) (suc k) n h =
    either _ n 10 (λ l. rw (small k n l) (omega arith))
    (λ l. rw (large k n l, length-append) (omega (arith, short j k (n / 10) (fewer 10 (suc j) n (omega arith) h))))

-- A number below 10 ^ (j + 1) has at most j + 1 digits.
pub decimal-short : (j n : ℕ) → n < 10 ^ suc j → length (decimal n) ≤ suc j
unfolding decimal
decimal-short j n h = short j 20 n h
