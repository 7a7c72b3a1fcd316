pub mod Internal
pub mod Rows
pub mod Tables
