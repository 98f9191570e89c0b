-- The text program's step: what a line is answered, and the block at hand after it.
pub mod Step
-- what is at hand stays sound
pub mod Kept
-- literal lines
pub mod StepExamples
