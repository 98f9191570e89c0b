-- What is true of the refusals' numbers and of answers.
pub mod Refusals
