pub mod Internal
pub mod Making
