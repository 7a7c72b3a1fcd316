-- What the private fields of units keep. No public contract uses these definitions.
pub mod Buffer
pub mod Partial
pub mod Serial
