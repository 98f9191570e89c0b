-- The text program: what a text of calls prints, and how it is fed in.

-- the definitions
pub mod Text
pub mod Feeding
-- what is printed byte by byte, and what a call reads, prints and keeps
pub mod Told
pub mod Fed
-- any calls, one after the other
pub mod Pieces
-- literal texts
pub mod TextExamples
-- literal pieces of a text, in little room
pub mod FeedingExamples
-- on the way: a store that is long enough
pub mod Fits
