-- The laws that the proofs of `giving_back` share. Assumes nothing.
pub mod Answered
pub mod GivenBack
