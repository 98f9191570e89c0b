-- What the contracts of this part of the boundary cite.
pub mod DedicatedChanges
pub mod DedicatedKept
pub mod DedicatedChangesExamples
