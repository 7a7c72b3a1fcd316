pub mod ChoiceFacts
pub mod FieldFacts
pub mod LineFacts
pub mod RowFacts
pub mod WantedFacts
