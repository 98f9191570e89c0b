-- Exactly when a free and a rename are refused: no chunk is live under the id. Definitions. Assumes nothing.
use Rattle.std.specs.Prelude.{ℕ, ◌≡◌}
use Rattle.laws.specs.Lists.{All}
use Rattle.model.specs.Block.{Block}

-- every chunk of the block that has the id is free
abbrev pub NoneLive : ℕ → Block → Type 0
NoneLive id b = All (λ c. c.id ≡ id → c.kind ≡ 0) b.chunks
