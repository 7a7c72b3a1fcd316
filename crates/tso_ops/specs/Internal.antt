-- What private tables keep and how far loops have come. No public contract uses these definitions.
pub mod Entries
pub mod MaskTables
pub mod Tables
