-- The program that moves the bytes: what it keeps of a text between reading and writing.
pub mod Moving
