-- The laws that the proofs of `bench_lines` share, and what is true of its definitions. Assumes nothing.
pub mod Bytes
pub mod Runs
-- a store that is long enough stays so
pub mod Fits
-- what is fed in byte by byte prints what the lines print
pub mod Told
pub mod FedLaws
-- and so does what any calls feed in, one after the other
pub mod Pieces
