pub mod TextFacts
pub mod ViolationFacts
pub mod FoundFacts
pub mod CountFacts
pub mod NameFacts
pub mod ReadFacts
pub mod RefusalFacts
pub mod RepeatedTags
