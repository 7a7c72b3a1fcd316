pub mod Arguments
pub mod Lines
pub mod Numerals
pub mod PlaceTexts
pub mod PlacesSaid
pub mod Tags
