pub mod MakingFacts
pub mod WordFacts
