pub mod KnownFacts
pub mod NthFacts
pub mod PairFacts
