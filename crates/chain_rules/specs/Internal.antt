-- What private tables keep and how far loops have come. No public contract names these definitions.
pub mod Accesses
pub mod BaseJoins
pub mod Joined
pub mod Layouts
pub mod LeastRows
pub mod Lowering
pub mod RoundEnds
pub mod Tables
