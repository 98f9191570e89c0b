-- A dedicated block's record as three words. Assumes nothing.
use Rattle.std.specs.Prelude.{ℕ, List, [], ◌∷◌, get_or}
use Rattle.dedicated.specs.Dedicated.{block}
use Rattle.dedicated.specs.declared.record.DedicatedBlock.{DedicatedBlock}

-- the record that three words stand for
abbrev pub record_of : List ℕ → DedicatedBlock
record_of ws = block (get_or ws 0 0) (get_or ws 1 0) (get_or ws 2 0)

-- the three words that stand for a record
abbrev pub words_of : DedicatedBlock → List ℕ
words_of d = d.size ∷ d.allocated ∷ d.label ∷ []
