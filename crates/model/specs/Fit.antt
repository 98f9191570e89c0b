-- The offset of a request in one free chunk: it fits, and it is the lowest that does. Definitions. Assumes nothing.
use Rattle.std.specs.Prelude.{ℕ, ◌+◌, ◌%◌, ◌≤◌, true, ◌≢◌, ◌≡◌}
use Rattle.pages.specs.Vulkan.{Resource, may_stand}
use Rattle.model.specs.Placing.{Request, asked}

-- ---- the page rule, by the first bytes of pages

-- two live kinds that differ
abbrev pub Conflict : ℕ → ℕ → Type 0
Conflict a b = (a ≢ 0) × (b ≢ 0) × (a ≢ b)

-- ---- one free chunk

-- the offset is aligned, the request fits there into the chunk of so many bytes from `begin`, and it keeps the page rule
-- with the chunk that is last before it and with the next one after it
pub record Fits (r : Request) (begin size : ℕ) (last next : Resource) (offset : ℕ) : Type 0 where
  pub aligned : offset % r.alignment ≡ 0
  pub above : begin ≤ offset
  pub below : offset + r.size ≤ begin + size
  pub before : may_stand r.granularity last (asked r offset) ≡ true
  pub after : may_stand r.granularity (asked r offset) next ≡ true

-- a live chunk before ends where this one begins, and has a byte
abbrev pub Touches : Resource → ℕ → Type 0
Touches last begin = last.kind ≢ 0 → (last.offset + last.size ≡ begin) × (1 ≤ last.size)
