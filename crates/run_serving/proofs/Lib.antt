pub mod CampaigningFacts
pub mod RepeatingFacts
pub mod ReplayingFacts
