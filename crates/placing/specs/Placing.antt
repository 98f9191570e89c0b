-- Placing on the words of a table. Assumes nothing.
use Rattle.std.specs.Prelude.{ℕ, ◌<◌, true, List, ◌≡◌}
use Rattle.std.proofs.Math.Option.{some}
use Rattle.laws.specs.Reply.{Reply}
use Rattle.model.specs.Block.{Spot}
use Rattle.model.specs.Placing.{Request, Placed, offset_in, taken, chosen, fault, place_in, place}
use Rattle.sub_allocator.specs.Answers.{Given}
use Rattle.table.specs.Layout.{is_table, size_at}
use Rattle.words.specs.Words.{block_of, sound, decode}
use Rattle.chunks.specs.Premises.{FreeIn}
use Rattle.chunks.specs.declared.taking.Mark.{Mark}
use Rattle.opening.specs.Look.{on_table}
use Rattle.opening.specs.Calls.{leaves}

abbrev pub given : Placed → Given
given p = record { offset = p.offset; id = p.id }

-- what the chunk that is given is marked with
abbrev pub mark_of : Request → Mark
mark_of r = record { kind = r.kind; label = r.label }

-- what placing in the chunk that is chosen tells and leaves
unfoldable pub placed_on : List ℕ → Request → Reply Given × List ℕ
placed_on ws r = leaves given (λ p. p.block) ws (place_in r (block_of ws) (chosen r (block_of ws)))

-- the call: the answer and every word after it
unfoldable pub allocate_on : List ℕ → Request → Reply Given × List ℕ
allocate_on ws r = leaves given (λ p. p.block) ws (on_table (place r) (decode ws))

-- ---- what the parts of the call are told

-- the words are a sound table's, the request is well formed, and the chunk that is chosen for it is in slot k
pub record Chosen (ws : List ℕ) (k : ℕ) (r : Request) : Type 0 where
  pub table : is_table ws ≡ true
  pub sound : sound ws ≡ true
  pub formed : fault r ≡ 0
  pub spot : Spot
  pub chosen : chosen r (block_of ws) ≡ some spot
  pub place : FreeIn ws k spot

-- it is to have n bytes, those asked for from the offset on, and the chunk has more
pub record Measured (ws : List ℕ) (k o n : ℕ) (r : Request) : Type 0 where
  pub chosen : Chosen ws k r
  pub offset : o ≡ offset_in r chosen.spot
  pub bytes : n ≡ taken r chosen.spot
  pub part : n < size_at ws k
