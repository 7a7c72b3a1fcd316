pub mod ReadingFacts
pub mod StreamFacts
