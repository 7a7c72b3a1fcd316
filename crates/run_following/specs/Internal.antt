pub mod Answers
pub mod Endings
pub mod Faults
pub mod Streams
