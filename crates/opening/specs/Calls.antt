-- A call that changes a table: what comes of it is written. Assumes nothing.
use Rattle.std.specs.Prelude.{ℕ, List}
use Rattle.laws.specs.Reply.{Reply, accepted, refused}
use Rattle.model.specs.Block.{Block}
use Rattle.words.specs.Words.{encode}

-- what a call tells of its outcome, and every word after it: those of the block that it leaves; a refusal keeps the words
abbrev pub leaves : {A B : Type 0} → (A → B) → (A → Block) → List ℕ → Reply A → Reply B × List ℕ
leaves tells after ws (accepted a) = (accepted (tells a), encode (after a))
leaves tells after ws (refused n) = (refused n, ws)
