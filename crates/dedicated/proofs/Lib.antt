-- The dedicated block: when each call is refused and what it answers otherwise; what it keeps.
pub mod Exactly
pub mod Kept
