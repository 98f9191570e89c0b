-- The leak walk: what a step from a place hands out, and the place after it. Assumes nothing.
use Rattle.std.specs.Prelude.{ℕ, ◌+◌, Bool, not, ◌&&◌, List, [], leb, Option, None, Some, Result}
use Rattle.std.proofs.Math.Option as spot
use Rattle.laws.specs.Reply.{Reply, accepted, refused}
use Rattle.refusals.specs.declared.Refusal.{Refusal}
use Rattle.refusals.specs.Refusals.{reply}
use Rattle.model.specs.Block.{Block, Spot, is_free, first, spots}
use Rattle.model.specs.GivingBack.{find}
use Rattle.words.specs.Words.{decode}
use Rattle.opening.specs.Look.{on_table}
use Rattle.leaks.specs.declared.leak.Leak.{Leak}

-- what is handed out of a live chunk; the size has the padding in it
abbrev pub Live : Type 0
Live = Leak

-- the code's answer, as the paper numbers it; the end is no refusal
abbrev pub reply_leak : Result (Option Leak) Refusal → Reply (Option Live)
reply_leak answer = reply answer

-- ---- the search

abbrev pub live_of : Spot → Live
live_of z = record {
  id = z.chunk.id;
  first_byte = first z;
  size = z.chunk.size;
  kind = z.chunk.kind;
  label = z.chunk.label;
}

abbrev pub handed_out : spot.Option Spot → Option Live
handed_out spot.none = None
handed_out (spot.some z) = Some (live_of z)

-- a live chunk that begins at the address or later
abbrev pub is_from : ℕ → Spot → Bool
is_from address z = not (is_free z.chunk) && leb address (first z)

-- the first of them, by rising address
unfoldable pub live_from : ℕ → Block → spot.Option Spot
live_from address b = find (is_from address) (spots [] b.chunks)

unfoldable pub leak_on : List ℕ → ℕ → Reply (Option Live)
leak_on ws address = on_table (λ b. accepted (handed_out (live_from address b))) (decode ws)

-- ---- the step

-- the end of the chunk that is handed out; at the end of the walk, and on a refusal, the place as it was
abbrev pub place_after : ℕ → Reply (Option Live) → ℕ
place_after place (accepted (Some l)) = l.first_byte + l.size
place_after place (accepted None) = place
place_after place (refused n) = place

-- what a step from a place answers, and the place after it
unfoldable pub step_on : List ℕ → ℕ → Reply (Option Live) × ℕ
step_on ws place = (leak_on ws place, place_after place (leak_on ws place))
