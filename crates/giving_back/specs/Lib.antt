-- Giving back and renaming on the words of a table: what the calls answer and leave.

-- the definitions
pub mod GivingBack
-- worked examples
pub mod GivingBackExamples
