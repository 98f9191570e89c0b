-- What a call does to one chunk of a table.
pub mod Steps
pub mod Premises
pub mod Sides
pub mod ReplacedWords
