use Rattle.std.proofs.Common.{subst, sym}
use Rattle.log_reports.specs.Internal.NamedEvents.{AreNames}
use Rattle.log_reports.specs.Namings.{named_events}
use Rattle.log_reports.proofs.NameFacts.{named_next}
use Rattle.log_reports.proofs.naming.name_events.Goals as goal

pub loop-p-preserved : goal.loop-p-preserved
loop-p-preserved c = subst (AreNames c.push_processor.new.self) (sym (named_next c.args.tags.now c.args.shown.now c.loop-p.p)) (c.in_ok-push_processor.ensures (named_events c.args.tags.now c.loop-p.p c.args.shown.now) c.loop-p.invariant)
