-- Vulkan's rule on buffer-image granularity (Resource Memory Association), and the Rust's page test held against it. Definitions. Assumes nothing.
use Rattle.std.specs.Prelude.{ℕ, ◌+◌, ◌-◌, ◌^◌, ◌≤◌, ◌<◌, Bool, not, ◌&&◌, ◌⊎◌, ◌≡◌}
use Rattle.pages.specs.Mask.{mask}
use Rattle.pages.specs.Pages.{is_on_same_page, has_granularity_conflict}

-- what is bound to a memory object: where it begins, its bytes, and its kind (1 linear, 2 non-linear)
pub record Resource : Type 0 where
  pub offset : ℕ
  pub size : ℕ
  pub kind : ℕ

-- resourceA.end = resourceA.memoryOffset + resourceA.size - 1
abbrev pub end : Resource → ℕ
end A = A.offset + A.size - 1

-- resourceA.endPage = resourceA.end & ~(bufferImageGranularity - 1)
abbrev pub end_page : ℕ → Resource → ℕ
end_page granularity A = mask (end A) granularity

-- resourceB.startPage = resourceB.memoryOffset & ~(bufferImageGranularity - 1)
abbrev pub start_page : ℕ → Resource → ℕ
start_page granularity B = mask B.offset granularity

-- the property that must hold of A, at the lower offset, and B, at the higher
abbrev pub PagesApart : ℕ → Resource → Resource → Type 0
PagesApart granularity A B = end_page granularity A < start_page granularity B

-- one resource is linear and the other non-linear
abbrev pub OneLinear : Resource → Resource → Type 0
OneLinear A B = ((A.kind ≡ 1) × (B.kind ≡ 2)) ⊎ ((A.kind ≡ 2) × (B.kind ≡ 1))

-- the Rust's two tests of A below B: not on one page with kinds that conflict
unfoldable pub may_stand : ℕ → Resource → Resource → Bool
may_stand granularity A B = not (is_on_same_page A.offset A.size B.offset granularity && has_granularity_conflict A.kind B.kind)

-- A lies wholly below B, in a block that 64-bit words can address
pub record Below (A B : Resource) : Type 0 where
  pub under : A.offset + A.size ≤ B.offset
  pub reach : B.offset < 2 ^ 64
