pub mod DecisionFacts
