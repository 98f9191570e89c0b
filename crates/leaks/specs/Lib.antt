-- The leak walk: what its steps answer, and what is proved of that.

-- the definitions
pub mod Leaks
-- the live chunks of a table, and what is handed out of them, in words alone
pub mod Lives
pub mod Handed
-- the steps of a walk; refusals; one answer and one place
pub mod Walked
pub mod Refusals
pub mod Determined
-- worked examples
pub mod LeakExamples
-- on the way: the slots of a table
pub mod LiveSlots
