pub mod FinalStates
pub mod Internal
pub mod RunStates
