pub mod CertificateFacts
pub mod PairFacts
pub mod RefusalExists
pub mod RefusalFacts
pub mod StructureFacts
pub mod Told
pub mod TreeFacts
pub mod WalkFacts
