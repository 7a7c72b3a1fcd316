pub mod Internal
pub mod Reductions
pub mod Remarks
