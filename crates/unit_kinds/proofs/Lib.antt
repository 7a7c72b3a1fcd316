pub mod BufferFacts
pub mod DrainingFacts
pub mod PartialBufferFacts
pub mod PartialFacts
pub mod SerialFacts
