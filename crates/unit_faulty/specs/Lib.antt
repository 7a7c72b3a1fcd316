pub mod Faulty
pub mod Internal
