-- What the contracts of `sizes` cite, and which sizes the calls reach.
pub mod Sizes
pub mod Reach
pub mod SizesExamples
