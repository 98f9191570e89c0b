-- What the contracts of this part of the boundary cite.
pub mod LeaksCalls
pub mod LeaksExamples
-- the end is told by an id of 0
pub mod EndTold
