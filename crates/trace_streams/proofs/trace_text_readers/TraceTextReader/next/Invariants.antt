use Rattle.std.proofs.Common.{List, ℕ, Option}
use Rattle.trace_streams.specs.TraceTextReading.{HasGiven, IsWithinStream}
use Rattle.trace_streams.proofs.trace_text_readers.TraceTextReader.next.Given as goal

abbrev pub invariant-loop : goal.invariant-loop
invariant-loop g l =
    (stream : Option (List ℕ)) (given : List (List ℕ)) → HasGiven l.fn.self stream (g.R.Read.remaining l.fn.reader) given → IsWithinStream l.self stream (g.R.Read.remaining l.reader) given
