-- Runs of calls, and the ranges that they hand out. Assumes nothing.
use Rattle.std.specs.Prelude.{ℕ, cond, List, [], ◌∷◌, eqb}
use Rattle.laws.specs.Reply.{Reply, accepted, refused}
use Rattle.model.specs.Block.{Block, fresh}
use Rattle.model.specs.Placing.{Request, Placed, place}
use Rattle.model.specs.GivingBack.{release, rename}

pub data Call : Type 0 where
  allocate : Request → Call
  free : ℕ → Call
  rename_to : ℕ → ℕ → Call

-- the bytes handed out to a request, under the id that they are given back by
pub record Range : Type 0 where
  pub id : ℕ
  pub offset : ℕ
  pub size : ℕ
  pub kind : ℕ

-- a block, and the ranges that were handed out on it and not given back
pub record State : Type 0 where
  pub block : Block
  pub live : List Range

abbrev pub without : ℕ → List Range → List Range
without id [] = []
without id (x ∷ xs) = cond (eqb x.id id) (without id xs) (x ∷ without id xs)

-- ---- one call: a refusal changes nothing

abbrev pub after_place : Request → State → Reply Placed → State
after_place r s (refused n) = s
after_place r s (accepted p) = record {
  block = p.block;
  live = record { id = p.id; offset = p.offset; size = r.size; kind = r.kind } ∷ s.live;
}

abbrev pub after_free : ℕ → State → Reply Block → State
after_free id s (refused n) = s
after_free id s (accepted b) = record { block = b; live = without id s.live }

abbrev pub after_rename : State → Reply Block → State
after_rename s (refused n) = s
after_rename s (accepted b) = record { block = b; live = s.live }

abbrev pub step : Call → State → State
step (allocate r) s = after_place r s (place r s.block)
step (free id) s = after_free id s (release id s.block)
step (rename_to id label) s = after_rename s (rename id label s.block)

-- ---- many calls, one after the other

abbrev pub run : List Call → State → State
run [] s = s
run (c ∷ cs) s = run cs (step c s)

-- a fresh block, on which nothing was handed out
abbrev pub begin : ℕ → ℕ → State
begin size slots = record { block = fresh size slots; live = [] }
