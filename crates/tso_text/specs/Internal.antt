-- The lines of texts by a grammar, what private tables keep and how far loops have come. No public contract uses these definitions.
pub mod Accepted
pub mod Begun
pub mod Grammars
pub mod LineReadings
pub mod Preambles
pub mod Spelled
pub mod Spelling
