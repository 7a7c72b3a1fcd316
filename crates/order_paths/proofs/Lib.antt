pub mod Decisions
pub mod Least
pub mod LeastExists
pub mod Neighbours
pub mod Reach
pub mod RisingNumbers
