pub mod Candidates
pub mod Evidence
pub mod Refutations
