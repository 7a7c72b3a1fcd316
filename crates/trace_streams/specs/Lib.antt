pub mod StreamSplitters
pub mod Internal
pub mod Limits
pub mod NthTraceTexts
pub mod TraceTextReading
pub mod TraceTexts
