-- The laws that the proofs of `decimal_text` share. Assumes nothing.
pub mod Digits
