pub mod HexadecimalFacts
pub mod TagFacts
pub mod DrainFacts
