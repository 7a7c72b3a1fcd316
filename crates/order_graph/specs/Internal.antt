-- What private tables keep and how far loops have come. No public contract uses these definitions.
pub mod KeptPaths
pub mod Tables
pub mod Tracks
pub mod Views
