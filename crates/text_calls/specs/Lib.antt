-- What the contracts of this part of the boundary cite.
pub mod TextCalls
pub mod TextExamples
