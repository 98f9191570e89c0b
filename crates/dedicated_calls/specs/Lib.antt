-- What the contracts of this part of the boundary cite.
pub mod DedicatedCalls
pub mod DedicatedExamples
