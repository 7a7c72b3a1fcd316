pub mod FillFacts
pub mod ListFacts
pub mod MarkFacts
pub mod RowFacts
pub mod SharedFacts
pub mod TableFacts
pub mod WordFacts
