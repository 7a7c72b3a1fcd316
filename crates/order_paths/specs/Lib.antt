pub mod Neighbours
pub mod Paths
