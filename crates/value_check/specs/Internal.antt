-- What private tables keep and how far loops have come. No public contract uses these definitions.
pub mod Cells
pub mod FirstTests
pub mod InForce
pub mod Known
pub mod Noted
pub mod Numbering
pub mod Settling
pub mod Showing
pub mod Structure
pub mod Walks
