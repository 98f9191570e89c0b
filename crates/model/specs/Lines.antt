-- What calls answer, a line for each. Assumes nothing.
use Rattle.std.specs.Prelude.{ℕ, List, [], ◌∷◌}
use Rattle.std.specs.Int.Count.{ones}
use Rattle.laws.specs.Reply.{Reply, accepted, refused}
use Rattle.laws.specs.Rounding.{align_down, align_up}
use Rattle.pages.specs.Pages.{is_power_of_two, is_on_same_page, has_granularity_conflict}
use Rattle.pages.specs.Vulkan.{may_stand}
use Rattle.model.specs.Block.{Chunk, Block, allocated, fresh}
use Rattle.model.specs.GivingBack.{release, rename}
use Rattle.model.specs.Placing.{Placed, raised, offset_at, taken_at, fits_at, fault, place}
use Rattle.model.specs.Runs.{Call, State, step}
use Rattle.model.specs.Runs.Call.{allocate, free, rename_to}

-- the number, the offset and the id that are handed out (0 where nothing is), and the bytes allocated after the call
pub record Line : Type 0 where
  pub number : ℕ
  pub offset : ℕ
  pub id : ℕ
  pub allocated : ℕ

abbrev pub line : ℕ → ℕ → ℕ → ℕ → Line
line number offset id allocated = record { number = number; offset = offset; id = id; allocated = allocated }

abbrev pub placed_line : Block → Reply Placed → Line
placed_line b (accepted p) = line 0 p.offset p.id (allocated p.block.chunks)
placed_line b (refused n) = line n 0 0 (allocated b.chunks)

abbrev pub changed_line : Block → Reply Block → Line
changed_line b (accepted c) = line 0 0 0 (allocated c.chunks)
changed_line b (refused n) = line n 0 0 (allocated b.chunks)

abbrev pub line_of : Call → Block → Line
line_of (allocate r) b = placed_line b (place r b)
line_of (free id) b = changed_line b (release id b)
line_of (rename_to id label) b = changed_line b (rename id label b)

-- the lines of calls, one after the other
unfoldable pub lines : List Call → State → List Line
unfolding place fault fits_at taken_at offset_at raised release rename is_power_of_two may_stand is_on_same_page has_granularity_conflict align_up align_down ones
lines [] s = []
lines (c ∷ cs) s = line_of c s.block ∷ lines cs (step c s)

-- ---- calls and chunks, written in short

abbrev pub ask : ℕ → ℕ → ℕ → ℕ → ℕ → Call
ask size alignment kind granularity label =
    allocate record { size = size; alignment = alignment; kind = kind; granularity = granularity; label = label }

abbrev pub chunk : ℕ → ℕ → ℕ → ℕ → ℕ → Chunk
chunk slot id size kind label = record { slot = slot; id = id; size = size; kind = kind; label = label }

-- a fresh block but for its next id
abbrev pub begin_at : ℕ → ℕ → ℕ → State
begin_at next size slots = record {
  block = record { size = size; next = next; slots = slots; chunks = (fresh size slots).chunks };
  live = [];
}
