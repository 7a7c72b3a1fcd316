pub mod CampaignFacts
pub mod DrawnScheduleFacts
pub mod LawfulRecords
