-- The laws that the proofs of `soundness` share. Assumes nothing.
pub mod Ways
pub mod Verdict
