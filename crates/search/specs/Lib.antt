-- What is looked up in a sound table.
pub mod Held
pub mod Slots
pub mod Scan
pub mod Empty
pub mod Found
pub mod Live
pub mod Fit
pub mod Along
pub mod Best
