pub mod IdleSwaps
pub mod Thinned
