pub mod Pictured
pub mod Pictures
