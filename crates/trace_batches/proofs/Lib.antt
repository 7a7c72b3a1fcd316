pub mod BatchFacts
pub mod JobFacts
pub mod JudgmentFacts
pub mod TallyFacts
mod TraceTextReports
pub mod ResultFacts
mod TraceTexts
pub mod WholeFacts
