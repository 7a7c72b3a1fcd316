-- How far loops have come. No public contract uses these definitions.
pub mod MadeOps
