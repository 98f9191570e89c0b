-- The laws that the proofs of `placing` share. Assumes nothing.
pub mod Placed
pub mod Sought
