use Rattle.trace_streams.specs.Internal.Searches.{IsBefore}
use Rattle.trace_streams.proofs.nth_trace_texts.read_trace_text.Given as goal

abbrev pub invariant-loop : goal.invariant-loop
invariant-loop g l = IsBefore l.number (g.R.Read.remaining l.fn.reader) (g.R.Read.remaining l.reader) l.search
