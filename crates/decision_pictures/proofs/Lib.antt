pub mod CertificateFacts
pub mod NumberFacts
