-- The theorems of `words`, and the laws that the proofs of its functions share. Assumes nothing.

-- what is written is read back; words are read as a block exactly when they are sound
pub mod Rules
pub mod Written
pub mod Checked
-- on the way to these
pub mod Rows
pub mod Laid
pub mod Linked
pub mod Keeping
pub mod Passed
pub mod Spots
-- for the functions
pub mod FreshWords
