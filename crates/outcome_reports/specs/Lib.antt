pub mod Outcomes
pub mod SeenTraces
pub mod StateLines
pub mod Internal
