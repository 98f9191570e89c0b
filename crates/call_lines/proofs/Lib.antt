-- What is true of reading every line, and what is on the way there.
pub mod FromBytes
pub mod ReadLaws
