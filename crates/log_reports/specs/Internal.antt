-- How far private functions have come. No public contract uses these definitions.
pub mod NamedEvents
