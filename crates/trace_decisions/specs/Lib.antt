pub mod Decisions
pub mod DecisionTexts
pub mod EvidenceReports
