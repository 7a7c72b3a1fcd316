pub mod ChainFacts
pub mod ClosureFacts
pub mod CutFacts
pub mod GroupedFacts
pub mod JoinFacts
pub mod ListFacts
pub mod LoweredFacts
pub mod TableFacts
