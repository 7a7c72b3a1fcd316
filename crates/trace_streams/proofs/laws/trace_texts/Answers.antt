use Rattle.trace_streams.proofs.TraceTextFacts.{joined_trace_texts, one_list_of_trace_texts, some_trace_texts}
use Rattle.trace_streams.proofs.laws.trace_texts.Goals as goal

pub returns : goal.returns
returns c = record { exists = some_trace_texts; one = one_list_of_trace_texts; joined = joined_trace_texts }
