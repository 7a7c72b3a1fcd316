-- What the check knows of a list as it goes through it. No public contract uses these definitions.
pub mod Left
pub mod Places
pub mod Progress
pub mod Seen
