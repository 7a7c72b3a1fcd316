pub mod CutFacts
pub mod LeastFacts
pub mod NumberFacts
pub mod PrintFacts
pub mod ReadingFacts
pub mod SplitFacts
