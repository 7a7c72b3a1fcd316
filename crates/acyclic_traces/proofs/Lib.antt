pub mod ClosedFacts
pub mod OrderFacts
pub mod PairFacts
pub mod ProductFacts
pub mod ReadFacts
