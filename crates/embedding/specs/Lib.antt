pub mod Sizes
pub mod RunOrder
