pub mod Facts
pub mod PairFacts
pub mod RefusalExists
pub mod RefusalFacts
