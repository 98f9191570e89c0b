-- The laws that the proofs of `bench_step` share. Assumes nothing.
pub mod Left
pub mod Answers
pub mod Steps
pub mod Kept
