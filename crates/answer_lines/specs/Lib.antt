-- Answers as lines of bytes.
pub mod Printed
pub mod PrintedLaws
pub mod PrintedExamples
pub mod Stored
