use Rattle.std.proofs.Common.{◌∙◌, ap, refl, subst, sym}
use Rattle.trace_streams.specs.StreamSplitters.{IsAt, IsLastTraceText, StreamSplitterValue}
use Rattle.trace_streams.specs.TraceTextReading.{TraceTextReaderValue}
use Rattle.trace_streams.proofs.TraceTextReaderFacts.{at_end}
use Rattle.trace_streams.proofs.trace_text_readers.TraceTextReader.end.Goals as goal

pub returns : goal.returns
returns c = λ stream now given s end.
    let same = c.replace.ensures.value ∙ ap (λ (r : TraceTextReaderValue). r.splitter) c.self.view_is in
    let last = c.last.ensures s.rest (subst (λ (k : StreamSplitterValue). IsAt k s.rest) (sym same) s.at) in
    at_end c.args.self.now _ stream now given s c.requires end refl c.last.result (subst (λ (k : StreamSplitterValue). IsLastTraceText k s.rest c.last.result) same last)
