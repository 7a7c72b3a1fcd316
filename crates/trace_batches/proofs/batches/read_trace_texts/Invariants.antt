use Rattle.trace_batches.specs.Internal.Progress.{HasWrittenSoFar, printing_by}
use Rattle.trace_batches.proofs.batches.read_trace_texts.Given as goal

abbrev pub invariant-loop : goal.invariant-loop
invariant-loop g l =
    HasWrittenSoFar (printing_by l.judging) l.judging.kept (g.R.Read.remaining l.fn.reader) (g.R.Read.remaining l.reader) (g.W.Write.contents l.fn.writer) (g.W.Write.contents l.writer) (g.E.Write.contents l.fn.errors)
    (g.E.Write.contents l.errors) l.progress.splitter l.progress.tally
