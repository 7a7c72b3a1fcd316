-- What private tables keep. No public contract uses these definitions.
pub mod Standings
pub mod Tables
