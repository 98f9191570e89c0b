-- What a refusal is called in words. Assumes nothing.
use Rattle.std.specs.Prelude.{ℕ, List, codes}
use Rattle.refusals.specs.declared.Refusal.{Refusal}
use Rattle.refusals.specs.declared.Refusal.TheVariants as refusal

-- its text, as it is printed
abbrev pub text_of : Refusal → List ℕ
text_of refusal.WordCount = codes "the number of words is not that of a table"
text_of refusal.Unsound = codes "the chunk table, or the record of a dedicated block, is not sound"
text_of refusal.ZeroSize = codes "the size is 0"
text_of refusal.Alignment = codes "the alignment is not a power of two"
text_of refusal.Granularity = codes "the granularity is not a power of two"
text_of refusal.Kind = codes "the kind is neither 1, linear, nor 2, non-linear"
text_of refusal.NoRoom = codes "no free chunk holds the request"
text_of refusal.NoId = codes "a chunk would have to be split, and no id is left"
text_of refusal.NoSlot = codes "a chunk would have to be split, and no slot is empty"
text_of refusal.UnknownId = codes "no live chunk has this id"
text_of refusal.Occupied = codes "the dedicated block is occupied"
text_of refusal.OtherSize = codes "the size is not that of the dedicated block"
text_of refusal.BlockSize = codes "the block size is 0, or too large for a free-list block"
text_of refusal.Sizes = codes "the block-size rules cannot produce these sizes"
text_of refusal.Amount = codes "the amount is too large for a text"
text_of refusal.ShortBuffer = codes "the buffer is too short for the text"
text_of refusal.NotId1 = codes "the id is not 1, the only one of a dedicated block"
