pub mod Chains
pub mod Internal
pub mod Rounds
pub mod Rows
pub mod Tables
