-- The ranges that are live after any calls on words are apart, in plain numbers. Assumes nothing.
use Rattle.std.specs.Prelude.{ℕ, ◌+◌, ◌*◌, ◌/◌, ◌≡◌}
use Rattle.std.proofs.Common.{⊎_elim, sym, ap, ◌∙◌}
use mathlib.Core.List.{List, Memᴰ}
use Rattle.laws.specs.Lists.{pair_at}
use Rattle.laws.specs.Powers.{Pow2}
use Rattle.laws.specs.Reply.{accepted}
use Rattle.laws.specs.Rounding.{align_down}
use Rattle.laws.proofs.Rounding.{down_quotient}
use Rattle.model.specs.Apart.{Apart}
use Rattle.model.proofs.Apart.{each_byte}
use Rattle.model.specs.Runs.{Call, Range}
use Rattle.opening.specs.Creation.{new_on}
use Rattle.block.specs.Runs.{run_on, begin_on}
use Rattle.block.specs.RunsApart.{AllCoarseOn, BytesApart}
use Rattle.block.proofs.RunsApart.{words-apart}

-- ---- ranges that are apart, in plain numbers

-- bytes on one page have one start of it
one_page : (G p q : ℕ) → p / G ≡ q / G → align_down p G ≡ align_down q G
one_page G p q e = down_quotient p G ∙ ap (λ (n : ℕ). n * G) e ∙ sym (down_quotient q G)

bytes_apart : (G : ℕ) (x y : Range) → Apart G x y → BytesApart G x y
bytes_apart G x y a = (
  a.ids,
  λ p q l m. (
    λ e. a.bytes (y.offset + q) (rw (← e) (each_byte x p l)) (each_byte y q m),
    λ d e. a.pages d (x.offset + p) (y.offset + q) (each_byte x p l) (each_byte y q m) (one_page G _ _ e),
  ),
)

-- the other way round
bytes-other : (G : ℕ) (x y : Range) → Apart G y x → BytesApart G x y
bytes-other G x y a =
    let b = bytes_apart G y x a in
    (λ e. b.0 (sym e), λ p q l m. let c = b.1 q p m l in (λ e. c.0 (sym e), λ d e. c.1 (λ f. d (sym f)) (sym e)))

module _ (ws : List ℕ) (size : ℕ) (ok : (new_on ws size).0 ≡ accepted tt) (cs : List Call) where
  -- What `words-apart` says in plain numbers, of any two of them.
  pub words-bytes : (G : ℕ) → Pow2 G → AllCoarseOn G cs (begin_on ws size) → (x y : Range)
      → Memᴰ x (run_on cs (begin_on ws size)).live → Memᴰ y (run_on cs (begin_on ws size)).live → (x ≡ y → ⊥)
      → BytesApart G x y
  words-bytes G pg h x y m k n =
      ⊎_elim (λ e. absurd (n e)) (⊎_elim (λ a. bytes_apart G x y a) (λ a. bytes-other G x y a))
      (pair_at (Apart G) (run_on cs (begin_on ws size)).live (words-apart ws size ok cs G pg h) x y m k)
