use Rattle.trace_streams.proofs.PrintedTraceTexts.{trace_texts_of_traces}
use Rattle.trace_streams.proofs.laws.printed_traces.Goals as goal

pub returns : goal.returns
returns c = trace_texts_of_traces
