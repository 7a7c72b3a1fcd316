pub mod DecisionFacts
pub mod EvidenceFacts
