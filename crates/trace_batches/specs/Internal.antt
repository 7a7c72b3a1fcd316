-- For private functions alone.
pub mod Decided
pub mod Progress
