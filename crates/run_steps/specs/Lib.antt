pub mod Machine
pub mod Places
pub mod Reads
pub mod Runs
pub mod Widths
pub mod Steps
pub mod Names
