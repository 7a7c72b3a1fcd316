-- For private functions alone.
pub mod Replays
