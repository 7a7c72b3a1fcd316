pub mod Events
pub mod Internal
pub mod Limits
pub mod Operations
pub mod Settings
pub mod Tally
pub mod Values
