pub mod StreamSplitterFacts
pub mod InputFacts
pub mod NthFacts
pub mod TraceTextFacts
pub mod TraceTextReaderFacts
pub mod PrintedTraceTexts
