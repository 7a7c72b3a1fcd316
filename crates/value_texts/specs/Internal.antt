-- What private tables keep and how far loops have come. No public contract uses these definitions.
pub mod LineValues
pub mod Names
pub mod ReadTexts
pub mod Tables
