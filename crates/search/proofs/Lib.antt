-- The laws that the proofs of `search` share. Assumes nothing.
pub mod Scanning
pub mod LiveWays
pub mod PageWays
pub mod Offsets
pub mod BetterWays
pub mod Searching
pub mod Walking
