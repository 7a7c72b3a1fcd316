pub mod Certificates
pub mod Internal
pub mod Printed
pub mod RefusalNames
pub mod Refutations
pub mod Spelling
