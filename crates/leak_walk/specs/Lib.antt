-- The walk as a struct: what its start and its steps are, and what is proved of that.

-- the definitions
pub mod Walks
-- its steps are those from a place; the start tells the refusal
pub mod WalkLaws
