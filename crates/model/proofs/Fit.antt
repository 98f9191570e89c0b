-- The offset of a request in one free chunk: it fits, and it is the lowest that does. Theorems. Assumes nothing.
use Rattle.std.specs.Prelude.{ℕ, ◌+◌, ◌-◌, ◌%◌, ◌≤◌, true, false, not, ◌&&◌, ◌↔◌, ◌≢◌, ◌≡◌, eqb, leb}
use Rattle.std.proofs.Math.Nat.{le_trans}
use native.Mathlib.Omega.{arith}
use borrow.Author.Tests.{eqb-true, eqb-false, ne_eqb, leb-true, le-leb, not-true, not-false}
use Rattle.laws.proofs.Pages.{raised-aligned, raised-past, raised-least}
use Rattle.laws.specs.Powers.{Pow2, pow2_pos}
use Rattle.laws.specs.Rounding.{align_down, align_up}
use Rattle.laws.proofs.Rounding.{down_mono, up_least}
use Rattle.laws.specs.Tests.{both, both_pass, not_both, cond_cases}
use Rattle.pages.specs.Pages.{is_on_same_page, has_granularity_conflict}
use Rattle.pages.specs.Vulkan.{Resource, end, may_stand}
use Rattle.model.specs.Placing.{Request, asked, raised, offset_at, taken_at, fits_at}
use Rattle.model.specs.Requests.{Formed}
use Rattle.model.specs.Fit.{Conflict, Fits, Touches}

conflict : (a b : ℕ) → has_granularity_conflict a b ≡ true ↔ Conflict a b
unfolding has_granularity_conflict
conflict a b = (
  λ e.
      let p = both (not (eqb a 0)) (not (eqb b 0) && not (eqb a b)) e in
      let q = both (not (eqb b 0)) (not (eqb a b)) p.1 in
      (eqb-false a 0 (not-true _ p.0), eqb-false b 0 (not-true _ q.0), eqb-false a b (not-true _ q.1)),
  λ c. rw (ne_eqb a 0 c.0, ne_eqb b 0 c.1, ne_eqb a b c.2),
)

-- Two resources may stand so exactly when, if their kinds conflict, the last byte of the one and the first byte of the
-- other lie on different pages.
pub stand_apart : (g : ℕ) (A B : Resource)
    → may_stand g A B ≡ true ↔ (Conflict A.kind B.kind → align_down (end A) g ≢ align_down B.offset g)
unfolding may_stand is_on_same_page
stand_apart g A B =
    let t = not_both (is_on_same_page A.offset A.size B.offset g) (has_granularity_conflict A.kind B.kind) in
    let c = conflict A.kind B.kind in
    (λ e k. eqb-false _ _ (t.0 e (c.1 k)), λ f. t.1 (λ e. ne_eqb _ _ (f (c.0 e))))

clash : (g : ℕ) (A B : Resource) → may_stand g A B ≡ false
    → Conflict A.kind B.kind × (align_down (end A) g ≡ align_down B.offset g)
unfolding may_stand is_on_same_page
clash g A B e =
    let same = is_on_same_page A.offset A.size B.offset g in
    let p = both same (has_granularity_conflict A.kind B.kind) (not-false _ e) in
    ((conflict A.kind B.kind).0 p.1, eqb-true _ _ p.0)

module _ (r : Request) (h : Formed Pow2 r) (begin : ℕ) (last : Resource) (edge : Touches last begin) where
  -- aligned, clear of the chunk before, and the lowest such
  record Least (offset : ℕ) : Type 0 where
    aligned : offset % r.alignment ≡ 0
    above : begin ≤ offset
    before : may_stand r.granularity last (asked r offset) ≡ true
    least : (o : ℕ) → o % r.alignment ≡ 0 → begin ≤ o → may_stand r.granularity last (asked r o) ≡ true → offset ≤ o

  -- the first byte of the chunk, aligned
  start : ℕ
  start = align_up begin r.alignment

  stay : may_stand r.granularity last (asked r start) ≡ true → Least start
  unfolding start
  stay e =
      let u = up_least begin (pow2_pos h.alignment) in
      record { aligned = u.multiple; above = u.above; before = e; least = λ o m l f. u.least o m l }

  rise : may_stand r.granularity last (asked r start) ≡ false → Least (align_up start r.granularity)
  unfolding start
  rise e =
      let c = clash r.granularity last (asked r start) e in
      let t = edge c.0.0 in
      let pos : 1 ≤ begin = omega arith in
      let page : align_down (begin - 1) r.granularity ≡ align_down start r.granularity = rw t.0 at c.1 in
      let u = up_least begin (pow2_pos h.alignment) in
      let past = raised-past begin h.alignment h.granularity pos page in
      record {
        aligned = raised-aligned begin h.alignment h.granularity pos page;
        above = le_trans u.above (up_least start (pow2_pos h.granularity)).above;
        before = (stand_apart r.granularity last (asked r _)).1 (rw t.0 (λ k q. omega arith));
        least = λ o m l f.
            raised-least begin h.alignment h.granularity pos page (u.least o m l)
            (rw t.0 at ((stand_apart r.granularity last (asked r o)).0 f c.0));
      }

  offset-least : Least (offset_at r begin last)
  unfolding offset_at raised start
  offset-least = cond_cases Least (may_stand r.granularity last (asked r start)) stay rise

  module _ (size : ℕ) (next : Resource) where
    -- Where the chunk passes, the request fits at the offset.
    pub passed-fits : fits_at r begin size last next ≡ true → Fits r begin size last next (offset_at r begin last)
    unfolding fits_at taken_at
    passed-fits e =
        let l = offset-least in
        let stands = may_stand r.granularity (asked r (offset_at r begin last)) next in
        let p = both (leb (taken_at r begin last) size) stands e in
        record {
          aligned = l.aligned;
          above = l.above;
          below = omega (arith, leb-true (taken_at r begin last) size p.0, l.above);
          before = l.before;
          after = p.1;
        }

    -- Wherever the request fits, the offset is no higher.
    pub fits-least : (o : ℕ) → Fits r begin size last next o → offset_at r begin last ≤ o
    fits-least o k = offset-least.least o k.aligned k.above k.before

    -- Where the request fits somewhere, the chunk passes.
    pub fits-passes : next.offset ≡ begin + size → (o : ℕ) → Fits r begin size last next o
        → fits_at r begin size last next ≡ true
    unfolding fits_at taken_at
    fits-passes e o k =
        let l = fits-least o k in
        let some = h.size in
        let low = k.below in
        let pos = pow2_pos h.granularity in
        let last_byte = down_mono pos (same_end l) in
        let next-byte = down_mono {x = o + r.size - 1} {y = next.offset} pos (omega arith) in
        both_pass (le-leb (taken_at r begin last) size (omega (arith, offset-least.above)))
        ((stand_apart r.granularity (asked r (offset_at r begin last)) next).1
        (λ c q. (stand_apart r.granularity (asked r o) next).0 k.after c (omega arith)))
      where
        same_end : {x y : ℕ} → x ≤ y → x + r.size - 1 ≤ y + r.size - 1
        same_end l = omega arith
