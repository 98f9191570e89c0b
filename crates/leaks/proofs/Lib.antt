-- The laws that the proofs of `leaks` share, and the theorems on what is handed out. Assumes nothing.
-- the lowest live chunk from an address on; every live chunk once, then the end
pub mod Handed
pub mod Walked
-- the slot of the chunk that is handed out
pub mod FirstSlot
-- on the way
pub mod Finding
pub mod Handing
