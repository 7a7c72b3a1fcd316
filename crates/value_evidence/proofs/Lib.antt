pub mod RefutationFacts
pub mod RefutationSoundness
pub mod Soundness
pub mod SwapAddresses
pub mod SwapSources
