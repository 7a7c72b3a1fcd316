pub mod IssuingFacts
