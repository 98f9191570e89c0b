-- What is proved of the definitions of specs/.
pub mod FreedOnWords
pub mod HandedOnWords
pub mod KeptOnWords
pub mod OneTable
pub mod Refused
pub mod RoomOnWords
pub mod RunsCoarse
pub mod RunsApart
pub mod RunsBytes
pub mod RunsLines
pub mod RunsWritten
pub mod TenSteps
