pub mod ReductionFacts
pub mod SelectionFacts
