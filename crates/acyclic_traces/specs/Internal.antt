-- Pairs that are kept as rows of bits, and what is looked at in these rows. No public contract uses these definitions.
pub mod Pairs
pub mod Rows
