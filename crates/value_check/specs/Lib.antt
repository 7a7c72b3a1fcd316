pub mod Internal
pub mod Refusals
pub mod RefutationRefusals
