pub mod Counting
pub mod PartLines
pub mod Streams
pub mod TraceLists
