-- How events are paired and their chains found, and how far loops have come. No public contract uses these definitions.
pub mod Joined
pub mod Keys
pub mod Pairs
pub mod Places
