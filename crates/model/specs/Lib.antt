-- A free-list block: what it is, what its calls mean, and the words of what proofs/ proves of them.

-- the definitions
pub mod Block
pub mod Placing
pub mod GivingBack
pub mod Runs
pub mod Soundness
-- demand 3, and every refusal's number
pub mod Requests
pub mod Room
pub mod Handed
pub mod Refusals
pub mod NoneLive
pub mod Apart
-- what calls keep, and how they change a block
pub mod Totals
pub mod Merging
pub mod Slots
pub mod Heads
pub mod Steps
pub mod Renaming
-- the paper's examples, and runs of the Rust
pub mod Lines
pub mod Examples
pub mod Recorded
-- on the way to these
pub mod Sums
pub mod Fit
pub mod Choose
pub mod Put
pub mod Effects
pub mod Track
pub mod Ranges
pub mod Holding
