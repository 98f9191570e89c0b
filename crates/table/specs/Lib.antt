-- The chunk table as words: where they stand.
pub mod Layout
pub mod Named
