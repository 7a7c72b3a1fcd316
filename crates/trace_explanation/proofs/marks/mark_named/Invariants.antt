use Rattle.std.proofs.Common.{suc, take}
use Rattle.tso_ops.specs.Events.{event_total}
use Rattle.trace_explanation.specs.Steps.{is_named}
use Rattle.trace_explanation.specs.Internal.Tables.{AreMarks}
use Rattle.trace_explanation.proofs.marks.mark_named.Given as goal

abbrev pub invariant-loop-line : goal.invariant-loop-line
invariant-loop-line g l = AreMarks (is_named (g.N.NamesEvents.numbers l.trace) (take l.line-index l.lines)) (suc (event_total l.trace)) l.marks.items
