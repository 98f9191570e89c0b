-- Stores into the words of a table.
pub mod Stores
