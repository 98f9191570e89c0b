-- Why calls are refused, by the paper's numbers, and in words.
pub mod Refusals
pub mod Texts
