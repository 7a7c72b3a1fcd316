pub mod Internal
pub mod PairTables
pub mod Refusals
