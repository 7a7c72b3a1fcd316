-- What private fields keep. No public contract uses these definitions.
pub mod Rings
