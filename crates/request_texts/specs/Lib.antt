pub mod NthTraces
pub mod OpenedFiles
