-- The laws that the proofs of `blockbench` share. Assumes nothing.
pub mod Moves
