pub mod Internal
pub mod LogLines
pub mod LogTexts
pub mod LogValues
pub mod Origins
pub mod Splits
pub mod Tags
