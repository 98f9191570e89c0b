-- Placing on the words of a table: what the call answers and leaves.

-- the definition
pub mod Placing
-- worked examples
pub mod PlacingExamples
