-- For private functions alone.
pub mod Searches
