pub mod Findings
pub mod RefusalLines
pub mod Renderings
pub mod Reports
pub mod Statuses
pub mod Verdicts
pub mod Violations
