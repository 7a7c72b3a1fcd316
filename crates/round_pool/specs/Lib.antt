pub mod ClaimCounts
pub mod Claims
pub mod Internal
pub mod RankGraphs
pub mod Rankings
pub mod Workers
