pub mod Internal
pub mod Names
pub mod Printed
pub mod RefusalNames
pub mod Spelling
