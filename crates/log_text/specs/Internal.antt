-- How far the reader of a log has come. No public contract uses these definitions.
pub mod Cuts
pub mod Readings
pub mod TagLists
