pub mod Certs
pub mod NewEdges
pub mod Axioms
pub mod Ranks
pub mod RuleAxioms
pub mod Rules
pub mod ReasonEdges
