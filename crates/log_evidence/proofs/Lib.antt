pub mod CheckFacts
pub mod LogRefusals
pub mod ReaderFacts
pub mod RefutationRefusals
