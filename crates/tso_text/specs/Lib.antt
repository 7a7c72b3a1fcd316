pub mod Internal
pub mod Lines
pub mod Numbers
pub mod Printed
pub mod RefusalNames
pub mod Refusals
pub mod Texts
