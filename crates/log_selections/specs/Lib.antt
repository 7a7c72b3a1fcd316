pub mod Cuts
pub mod Internal
pub mod Shown
pub mod Selections
pub mod Sources
pub mod Unwritten
