-- When placing, giving back and renaming are refused, and with which number; they are accepted otherwise. Definitions. Assumes nothing.
use Rattle.std.specs.Prelude.{ℕ, List, ◌≢◌, ◌≡◌}
use Rattle.table.specs.Layout.{id_at, kind_at}
use Rattle.words.specs.Soundness.{Used}

-- ---- free and rename

-- the slot is used, and its chunk is live and has the id
abbrev pub LiveSlot : List ℕ → ℕ → ℕ → Type 0
LiveSlot ws id k = Used ws k × (id_at ws k ≡ id) × (kind_at ws k ≢ 0)

-- no used slot with the id is a live chunk's
abbrev pub NoLiveSlot : List ℕ → ℕ → Type 0
NoLiveSlot ws id = (k : ℕ) → Used ws k → id_at ws k ≡ id → kind_at ws k ≡ 0
