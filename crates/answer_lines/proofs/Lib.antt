-- What the proofs of the functions share, and how long a printed line is.
pub mod Parts
pub mod PrintedLaws
