-- What private functions check of a small trace. No public contract uses these definitions.
pub mod Checking
