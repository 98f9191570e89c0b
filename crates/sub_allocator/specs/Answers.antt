-- What an accepted request is told. Assumes nothing.
use Rattle.std.specs.Prelude.{◌≡◌, refl, Ok}
use Rattle.laws.specs.Reply.{Reply, accepted}
use Rattle.refusals.specs.Refusals.{reply}
use Rattle.sub_allocator.specs.declared.answers.Placement.{Placement}

-- the offset, and the id that it is given back by
abbrev pub Given : Type 0
Given = Placement

-- An offset of 1024 and id 3 are told as these.
placed-told : reply {A = Given} (Ok record { offset = 1024; id = 3 }) ≡ accepted record { offset = 1024; id = 3 }
placed-told = refl
