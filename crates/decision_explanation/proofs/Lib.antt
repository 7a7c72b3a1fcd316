pub mod CertificateFacts
pub mod ClaimFacts
pub mod InForceFacts
pub mod PlaceFacts
pub mod PartFacts
pub mod TextFacts
