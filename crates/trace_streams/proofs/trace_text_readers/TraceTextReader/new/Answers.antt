use Rattle.std.proofs.Common.{inl, refl}
use Rattle.trace_streams.proofs.TraceTextReaderFacts.{given_at_start}
use Rattle.trace_streams.proofs.trace_text_readers.TraceTextReader.new.Goals as goal

pub returns : goal.returns
returns c = λ stream. inl (given_at_start _ stream refl refl c.new.ensures.limit c.new.ensures.at)
