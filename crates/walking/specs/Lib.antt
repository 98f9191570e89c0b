-- What the parts of the walk answer.
pub mod Answers
