-- `put_places` meets its contract: four stores, one place after another. Assumes nothing.
use Rattle.std.proofs.Common.{refl}
use Rattle.byte_text.proofs.Parts.{four}
use Rattle.byte_text.proofs.put_places.Goals as goal

pub returns : goal.returns
returns c = (refl, four _ _ _ _ _ _ c.requires)
