-- A free-list block made anew, looked at and asked: what the calls answer, and what is proved of that.

-- the definitions
pub mod Look
pub mod Creation
pub mod Questions
pub mod Calls
-- what the look at the words tells, in the code's words and in the paper's
pub mod Fault
pub mod Looked
-- what a new block is
pub mod NewBlock
-- worked examples, and tables for those of other calls
pub mod BlockExamples
pub mod FiveChunks
