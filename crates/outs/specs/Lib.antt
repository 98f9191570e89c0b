-- What the contracts of the boundary cite.
pub mod Outs
pub mod OutsExamples
-- a truth value as a number
pub mod Flag
