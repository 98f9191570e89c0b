-- What the contracts of this part of the boundary cite.
pub mod SizesCalls
pub mod SizesExamples
