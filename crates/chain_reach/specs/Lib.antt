pub mod Groups
pub mod Internal
pub mod Leading
