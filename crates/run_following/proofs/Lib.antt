pub mod AppendedFacts
pub mod EndingFacts
pub mod ExactFacts
pub mod FollowFacts
pub mod KeptFacts
pub mod NotedFacts
pub mod StreamFacts
