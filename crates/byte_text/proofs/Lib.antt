-- The laws that the proofs of `byte_text` share, and what is true of its text. Assumes nothing.
pub mod Parts
pub mod Dividing
pub mod ReadBack
