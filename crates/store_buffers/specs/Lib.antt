pub mod Buffers
pub mod Internal
