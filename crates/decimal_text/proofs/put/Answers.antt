-- `put` meets its contract. Assumes nothing.
use Rattle.std.proofs.Common.{refl, sym}
use Rattle.laws.specs.Splice.{splice-one}
use Rattle.decimal_text.proofs.put.Goals as goal

pub returns : goal.returns
returns c = (refl, sym (splice-one _ _ _ c.requires))
