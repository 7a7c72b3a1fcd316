pub mod EventFacts
pub mod KeyFacts
pub mod PairFacts
pub mod ReachFacts
