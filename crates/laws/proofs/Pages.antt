-- Pages of bytes: the byte x lies on the page of g bytes that begins at `align_down x g`. Assumes nothing.
use Rattle.std.specs.Prelude.{ℕ, ◌-◌, ◌%◌, ◌≤◌, ◌<◌, ◌≢◌, ◌≡◌}
use Rattle.std.proofs.Common.{le_refl, le_trans, arith}
use Rattle.laws.specs.Powers.{Pow2, pow2_pos, pow2_divides}
use Rattle.laws.specs.Rounding.{align_down, align_up}
use Rattle.laws.proofs.Rounding.{down_greatest, down_mono, up_least, multiple_trans}
use Rattle.laws.specs.Tests.{either}

-- A byte below a multiple of the page size lies on an earlier page.
page_before : {x m g : ℕ} → 0 < g → m % g ≡ 0 → x < m → align_down x g < align_down m g
page_before {x} {m} h e l = omega (arith, (down_greatest x h).below, (down_greatest m h).greatest m e (le_refl m))

-- A byte on an earlier page than y lies below the first byte of y's page.
page_below : (x y : ℕ) {g : ℕ} → 0 < g → align_down x g < align_down y g → x < align_down y g
page_below x y {g} h l =
    either (x < align_down y g) x (align_down y g) (λ k. k)
    (λ k. absurd (omega (arith, (down_greatest x h).greatest _ (down_greatest y h).multiple k)))

-- Where G divides g, a byte on no later page of G bytes than y is on no later page of g bytes.
page_coarse : (x y : ℕ) {G g : ℕ} → 0 < G → 0 < g → g % G ≡ 0 → align_down x G ≤ align_down y G
    → align_down x g ≤ align_down y g
page_coarse x y {G} {g} H h d l =
    let m = down_greatest x h in
    let first : align_down x g ≤ align_down x G =
    (down_greatest x H).greatest _ (multiple_trans _ g G m.multiple d) m.below in
    (down_greatest y h).greatest _ m.multiple (omega (arith, (down_greatest y H).below))

-- Where G divides g, two bytes on different pages of g bytes are on different pages of G bytes.
pub page_finer : {x y G g : ℕ} → 0 < G → 0 < g → g % G ≡ 0 → x ≤ y → align_down x g ≢ align_down y g
    → align_down x G < align_down y G
page_finer {x} {y} {G} {g} H h d l n =
    either (align_down x G < align_down y G) (align_down x G) (align_down y G) (λ k. k)
    (λ k. absurd (n (omega (arith, down_mono h l, page_coarse y x H h d k))))

-- ---- an address rounded up to the alignment a, where it lies on the page of g bytes of the byte before the address

module _ {a g : ℕ} (x : ℕ) (pa : Pow2 a) (pg : Pow2 g) (pos : 0 < x)
    (e : align_down (x - 1) g ≡ align_down (align_up x a) g) where
  not-at-page : align_up x a % g ≡ 0 → ⊥
  not-at-page z =
      let u = (up_least x (pow2_pos pa)).above in
      omega (arith, page_before {x = x - 1} (pow2_pos pg) z (omega arith))

  -- Rounded up again, to the page, it is still aligned.
  pub raised-aligned : align_up (align_up x a) g % a ≡ 0
  raised-aligned =
      let once = (up_least x (pow2_pos pa)).multiple in
      let twice = (up_least (align_up x a) (pow2_pos pg)).multiple in
      either (align_up (align_up x a) g % a ≡ 0) g a
      (λ l. absurd (not-at-page (multiple_trans _ a g once (pow2_divides pg pa (omega arith)))))
      (λ l. multiple_trans _ g a twice (pow2_divides pa pg l))

  -- It has left the page of the byte before the address.
  pub raised-past : align_down (x - 1) g < align_down (align_up (align_up x a) g) g
  raised-past =
      let u = up_least (align_up x a) (pow2_pos pg) in
      page_before (pow2_pos pg) u.multiple (omega (arith, (up_least x (pow2_pos pa)).above, u.above))

  -- And nothing lower, from the aligned address on, has left it.
  pub raised-least : {y : ℕ} → align_up x a ≤ y → align_down (x - 1) g ≢ align_down y g → align_up (align_up x a) g ≤ y
  raised-least {y} l n =
      let d = down_greatest y (pow2_pos pg) in
      let b : align_up x a < align_down y g = page_below _ y (pow2_pos pg) (omega (arith, down_mono (pow2_pos pg) l)) in
      le_trans ((up_least (align_up x a) (pow2_pos pg)).least _ d.multiple (omega arith)) d.below
