use Rattle.std.proofs.Common.{take, string_bytes}
use Rattle.tso_ops.specs.Values.{rows}
use Rattle.outcome_reports.specs.Internal.PartLines.{GetsParts}
use Rattle.outcome_reports.specs.StateLines.{parts_of_reads}
use Rattle.outcome_reports.proofs.lines.push_lists.Given as goal

abbrev pub invariant-loop-p : goal.invariant-loop-p
invariant-loop-p l = GetsParts (string_bytes l.fn.text) l.fn.begun (string_bytes l.text) l.begun (parts_of_reads 0 (rows (take l.p l.lists)))
