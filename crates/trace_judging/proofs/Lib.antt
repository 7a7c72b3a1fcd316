pub mod CheckFacts
pub mod CollectFacts
pub mod EvidenceFacts
pub mod Neighbours
pub mod ReaderFacts
pub mod ReportFacts
pub mod RoundSteps
pub mod ViolationFacts
