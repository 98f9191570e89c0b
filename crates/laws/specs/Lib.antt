-- General definitions and lemmas, with no subject of the allocator's.
pub mod Reply
pub mod Tests
pub mod Every
pub mod Members
pub mod Lists
pub mod Mapped
pub mod Cuts
pub mod Counting
pub mod Powers
pub mod Rounding
pub mod Nearest
pub mod Decimal
pub mod Letters
pub mod Splice
