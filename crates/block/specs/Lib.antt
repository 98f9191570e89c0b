-- The calls that change a free-list block: the words of what proofs/ proves of their definitions, and of runs of them.

-- the definition of runs
pub mod Runs
-- when each call is refused; demand 3 on words; that it has one outcome
pub mod Refused
pub mod RoomOnWords
pub mod Determined
-- what a slot tells of its chunk; what an accepted call leaves in the slots; that this tells every word
pub mod Entries
pub mod HandedOnWords
pub mod FreedOnWords
pub mod RenamedOnWords
pub mod OneTable
-- demand 3's second half on words, and that runs on words are the block's
pub mod RunsApart
pub mod RunsWritten
-- worked examples
pub mod TenSteps
pub mod CallExamples
-- on the way to these
pub mod SlotsOnWords
pub mod ReplacedOnWords
