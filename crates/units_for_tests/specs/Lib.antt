pub mod Inventing
pub mod Issues
