-- What is proved of the sizes.
pub mod Reach
