-- What private tables keep and how far loops have come. No public contract uses these definitions.
pub mod Accesses
pub mod Ascents
pub mod Keeping
pub mod Known
pub mod Writers
