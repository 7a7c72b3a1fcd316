pub mod Readings
pub mod Streams
pub mod WrittenTexts
