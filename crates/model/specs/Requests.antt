-- Requests: when one is well formed, and which number its first fault has. Definitions. Assumes nothing.
use Rattle.std.specs.Prelude.{ℕ, ◌^◌, ◌≤◌, ◌<◌, ◌⊎◌, ◌≡◌}
use Rattle.laws.specs.Powers.{Pow64}
use Rattle.model.specs.Placing.{Request}

-- size at least 1; alignment and granularity powers, in the sense that is given; kind 1 or 2
pub record Formed (Power : ℕ → Type 0) (r : Request) : Type 0 where
  pub size : 1 ≤ r.size
  pub alignment : Power r.alignment
  pub granularity : Power r.granularity
  pub kind : (r.kind ≡ 1) ⊎ (r.kind ≡ 2)

-- the request is well formed: its powers are 2 ^ k for some k below 64
abbrev pub WellFormed : Request → Type 0
WellFormed r = Formed Pow64 r

-- the alignment and the granularity are 64-bit words
pub record Words (r : Request) : Type 0 where
  pub alignment : r.alignment < 2 ^ 64
  pub granularity : r.granularity < 2 ^ 64
