-- The words of states, and what the search knows of them. No public contract uses these definitions.
pub mod Plans
pub mod Search
pub mod Stands
pub mod Words
