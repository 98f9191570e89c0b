-- The ways out of the page tests of a request and its neighbours. Assumes nothing.
use Rattle.std.proofs.Common.{◌≡◌, ℕ, Bool, true, false, not, ◌&&◌, eqb, ◌≢◌, List, sym, refl, ◌∙◌}
use Rattle.laws.specs.Every.{clash}
use Rattle.laws.specs.Tests.{failed, passed, not_both}
use Rattle.pages.specs.Pages.{is_on_same_page, has_granularity_conflict}
use Rattle.pages.specs.Vulkan.{Resource, may_stand}
use Rattle.model.specs.Placing.{Request, asked}
use Rattle.table.specs.Layout.{size_at, first_byte_at, kind_at, next_at, previous_at}
use Rattle.search.specs.Fit.{resource_at, resource_some, before_at, after_at}

-- ---- any two ranges

agree : (g : ℕ) (A B : Resource) → has_granularity_conflict A.kind B.kind ≡ false → true ≡ may_stand g A B
unfolding may_stand
agree g A B e =
    sym ((not_both (is_on_same_page A.offset A.size B.offset g) (has_granularity_conflict A.kind B.kind)).1
    (λ t. absurd (clash t e)))

free_below : (g : ℕ) (A B : Resource) → A.kind ≡ 0 → true ≡ may_stand g A B
unfolding has_granularity_conflict
free_below g A B e = agree g A B (rw e)

free_above : (g : ℕ) (A B : Resource) → B.kind ≡ 0 → true ≡ may_stand g A B
unfolding has_granularity_conflict
free_above g A B e = agree g A B (rw e (neither (not (eqb A.kind 0))))
  where
    neither : (t : Bool) → (t && false) ≡ false
    neither true = refl
    neither false = refl

by_page : (g : ℕ) (A B : Resource) → has_granularity_conflict A.kind B.kind ≡ true
    → (t : Bool) → t ≡ is_on_same_page A.offset A.size B.offset g → not t ≡ may_stand g A B
unfolding may_stand
by_page g A B c t e = rw (c, ← e) (alone t)
  where
    alone : (t : Bool) → not t ≡ not (t && true)
    alone true = refl
    alone false = refl

-- ---- the chunk before slot k, which is in slot p

module _ (ws : List ℕ) (k p : ℕ) (e : p ≡ previous_at ws k) (r : Request) (offset : ℕ) where
  abbrev stands : Bool
  stands = may_stand r.granularity (before_at ws k) (asked r offset)

  -- there is none
  pub none_before : p ≡ 0 → true ≡ stands
  unfolding before_at
  none_before z = free_below r.granularity (before_at ws k) (asked r offset) (rw (sym e ∙ z))

  module _ (n : p ≢ 0) (kind : ℕ) (f : kind ≡ kind_at ws p) (t : Bool) (c : t ≡ has_granularity_conflict kind r.kind) where
    before-some : before_at ws k ≡ resource_at ws p
    unfolding before_at
    before-some = rw (← e) (resource_some _ ws p n)

    -- the kinds do not conflict
    pub kinds-before : not t ≡ true → true ≡ stands
    kinds-before u =
        rw before-some (agree r.granularity (resource_at ws p) (asked r offset) (rw (← f) (failed c u)))

    -- they do, and the pages tell
    pub page_before : not t ≡ false → (first size : ℕ) → first ≡ first_byte_at ws p → size ≡ size_at ws p
        → (s : Bool) → s ≡ is_on_same_page first size offset r.granularity → not s ≡ stands
    page_before u first size a b s q =
        rw before-some
        (by_page r.granularity (resource_at ws p) (asked r offset) (rw (← f) (passed c u)) s (rw (← a, ← b) q))

-- ---- the chunk after it, which is in slot p

module _ (ws : List ℕ) (k p : ℕ) (e : p ≡ next_at ws k) (r : Request) (offset : ℕ) where
  abbrev clears : Bool
  clears = may_stand r.granularity (asked r offset) (after_at ws k)

  -- there is none
  pub none_after : p ≡ 0 → true ≡ clears
  unfolding after_at
  none_after z = free_above r.granularity (asked r offset) (after_at ws k) (rw (sym e ∙ z))

  module _ (n : p ≢ 0) (kind : ℕ) (f : kind ≡ kind_at ws p) (t : Bool) (c : t ≡ has_granularity_conflict r.kind kind) where
    after-some : after_at ws k ≡ resource_at ws p
    unfolding after_at
    after-some = rw (← e) (resource_some _ ws p n)

    -- the kinds do not conflict
    pub kinds-after : not t ≡ true → true ≡ clears
    kinds-after u =
        rw after-some (agree r.granularity (asked r offset) (resource_at ws p) (rw (← f) (failed c u)))

    -- they do, and the pages tell
    pub page-after : not t ≡ false → (first : ℕ) → first ≡ first_byte_at ws p
        → (s : Bool) → s ≡ is_on_same_page offset r.size first r.granularity → not s ≡ clears
    page-after u first a s q =
        rw after-some
        (by_page r.granularity (asked r offset) (resource_at ws p) (rw (← f) (passed c u)) s (rw (← a) q))
