-- Lines of calls: their format, and the line reader.

-- the definitions
pub mod Format
pub mod Asked
pub mod Reading
-- what is true of them
pub mod ReadLaws
pub mod FormatExamples
-- on the way
pub mod ReadSteps
pub mod Pushing
