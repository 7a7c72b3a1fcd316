pub mod NamedFacts
pub mod LineFacts
pub mod TokenFacts
pub mod PrintFacts
pub mod PrintedFacts
pub mod SayingFacts
pub mod SpellingFacts
