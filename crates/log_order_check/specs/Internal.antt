-- What private tables keep and how far loops have come. No public contract uses these definitions.
pub mod Bounds
pub mod Most
pub mod Passed
pub mod Progress
pub mod Tables
