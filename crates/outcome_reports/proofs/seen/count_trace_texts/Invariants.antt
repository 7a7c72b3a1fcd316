use Rattle.std.proofs.Common.{◌≡◌, ℕ, List, length, map}
use Rattle.tso_ops.specs.Values.{TraceValue, rows}
use Rattle.trace_streams.specs.TraceTextReading.{HasGiven}
use Rattle.final_states.specs.FinalStates.{values_read}
use Rattle.outcome_reports.specs.Internal.Streams.{HasCounted}
use Rattle.outcome_reports.specs.Outcomes.{AreTracesOf}
use Rattle.outcome_reports.proofs.seen.count_trace_texts.Given as goal

abbrev pub invariant-loop : goal.invariant-loop
invariant-loop g l = record {
  wide : length l.counts.seen.items ≡ length l.keys;
  has : (traces : List TraceValue) → AreTracesOf l.program traces → rows l.keys ≡ map values_read traces →
      HasCounted l.program traces l.pieces (g.S.Read.remaining l.fn.stream) (g.S.Read.remaining l.stream) l.counts;
  given : (pieces : List (List ℕ)) × HasGiven l.pieces (g.S.Read.remaining l.fn.stream) (g.S.Read.remaining l.stream) pieces;
}
