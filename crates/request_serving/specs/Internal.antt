-- For private functions alone.
pub mod Batching
