use Rattle.log_reports.specs.Internal.NamedEvents.{AreNames}
use Rattle.log_reports.specs.Namings.{named_events}
use Rattle.log_reports.proofs.naming.name_events.Given as goal

abbrev pub invariant-loop-p : goal.invariant-loop-p
invariant-loop-p l = AreNames l.named (named_events l.fn.tags l.p l.fn.shown)
