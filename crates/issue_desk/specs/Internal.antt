-- For private functions alone.
pub mod Issued
pub mod Passes
