use Rattle.std.proofs.Common.{map, take, string_bytes}
use Rattle.outcome_reports.specs.Internal.PartLines.{GetsParts}
use Rattle.outcome_reports.specs.StateLines.{last_part}
use Rattle.outcome_reports.proofs.lines.push_entries.Given as goal

abbrev pub invariant-loop-entry : goal.invariant-loop-entry
invariant-loop-entry l = GetsParts (string_bytes l.fn.text) l.fn.begun (string_bytes l.text) l.begun (map last_part (take l.entry-index l.entries))
