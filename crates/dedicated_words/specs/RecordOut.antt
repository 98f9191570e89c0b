-- What a call leaves of a dedicated block's record at the boundary. Assumes nothing.
use Rattle.std.specs.Prelude.{ℕ, List}
use Rattle.laws.specs.Reply.{Reply, accepted, refused}
use Rattle.dedicated.specs.RecordWords.{words_of}
use Rattle.dedicated.specs.declared.record.DedicatedBlock.{DedicatedBlock}

-- the number given back and the words after a call that makes or changes a record: those that were there on a refusal
abbrev pub new_out : Reply DedicatedBlock → List ℕ → ℕ × List ℕ
new_out (accepted d) ws = (0, words_of d)
new_out (refused n) ws = (n, ws)
