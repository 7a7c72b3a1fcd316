pub mod Buffer
pub mod Internal
pub mod Partial
pub mod Serial
