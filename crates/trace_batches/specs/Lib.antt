pub mod BatchLines
pub mod BatchNames
pub mod Batches
pub mod Judgments
pub mod Internal
