pub mod AnswerFacts
pub mod ClaimFacts
pub mod EdgeFacts
pub mod GraphFacts
pub mod RankedFacts
pub mod RoundFacts
pub mod WorkerRowFacts
pub mod WorksetFacts
