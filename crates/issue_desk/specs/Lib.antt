pub mod Desks
pub mod Finishing
pub mod Internal
pub mod Running
