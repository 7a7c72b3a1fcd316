pub mod EntryFacts
pub mod RingFacts
