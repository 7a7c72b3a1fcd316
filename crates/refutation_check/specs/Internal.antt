-- What private tables keep and how far loops have come. No public contract uses these definitions.
pub mod Pairs
pub mod Structure
pub mod Walks
