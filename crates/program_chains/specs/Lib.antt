pub mod Chains
pub mod Internal
pub mod LogEvents
