pub mod DrainFacts
pub mod UnitFacts
