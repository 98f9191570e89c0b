-- What a block of either kind is asked, and what it answers.
pub mod Requests
pub mod Answers
