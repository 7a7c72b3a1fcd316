pub mod SayingFacts
pub mod LineFacts
pub mod FaultFacts
pub mod PrintedFacts
pub mod CertificateFacts
pub mod PrintFacts
pub mod SpellingFacts
