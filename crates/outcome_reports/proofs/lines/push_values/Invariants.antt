use Rattle.std.proofs.Common.{string_bytes}
use Rattle.outcome_reports.specs.Internal.PartLines.{GetsValues}
use Rattle.outcome_reports.proofs.lines.push_values.Given as goal

abbrev pub invariant-loop-outcome : goal.invariant-loop-outcome
invariant-loop-outcome l = GetsValues l.p l.outcome-index l.outcomes (string_bytes l.fn.text) l.fn.begun (string_bytes l.text) l.begun l.number
