use Rattle.trace_batches.proofs.TraceTexts.{texts_of_traces}
use Rattle.trace_batches.proofs.laws.printed_traces.Goals as goal

pub returns : goal.returns
returns c = texts_of_traces
