-- The dedicated block: what its calls answer.

-- the definitions
pub mod Dedicated
-- the record as three words
pub mod RecordWords
pub mod SameWords
-- when a record is sound
pub mod Exactly
-- that each call has one outcome
pub mod Determined
-- worked examples
pub mod DedicatedExamples
