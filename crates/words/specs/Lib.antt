-- The chunk table as words: what they say, and when they are sound.

-- the definitions
pub mod Words
pub mod Soundness
-- what the functions of the check answer
pub mod Checks
pub mod Ids
-- what is said of words and of the chunks that they hold
pub mod Written
pub mod Laid
pub mod Linked
pub mod Passed
pub mod Spots
-- on the way to the theorems of proofs/
pub mod Walking
pub mod EmptySlots
