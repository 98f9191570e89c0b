-- A chunk of a table cut in two, and two joined.
pub mod Premises
pub mod Steps
pub mod Stores
pub mod SplitWords
pub mod JoinedWords
