pub mod Internal
pub mod Lines
pub mod Numbers
pub mod Readings
pub mod Refusals
pub mod Results
