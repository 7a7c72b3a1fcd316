pub mod Checks
pub mod Evidence
pub mod Internal
pub mod Limits
pub mod Verdicts
pub mod WrittenReports
