-- The laws that the proofs of `opening` share. Assumes nothing.
pub mod Turned
pub mod Asked
-- what the look at the words tells, in the paper's words
pub mod Looked
pub mod Outcomes
-- when each call is refused, what it answers otherwise, and what a new block is
pub mod Exactly
pub mod NewBlock
