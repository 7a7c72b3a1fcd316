pub mod AgreementFacts
pub mod DeskFacts
pub mod FinishFacts
pub mod RunFacts
