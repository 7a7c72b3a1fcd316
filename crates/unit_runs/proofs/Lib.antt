pub mod SameStores
pub mod Drains
pub mod Loads
pub mod Moments
pub mod Runs
pub mod Starts
