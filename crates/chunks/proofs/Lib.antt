-- The laws that the proofs of `chunks` share. Assumes nothing.
pub mod ChunkStores
