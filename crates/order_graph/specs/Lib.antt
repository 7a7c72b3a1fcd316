pub mod Digraphs
pub mod Internal
