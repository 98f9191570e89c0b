-- The laws that the proofs of `walking` share. Assumes nothing.
pub mod Buckets
pub mod Chains
pub mod Turns
