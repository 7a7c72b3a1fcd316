pub mod Internal
pub mod Printed
pub mod RefusalNames
pub mod Spelling
