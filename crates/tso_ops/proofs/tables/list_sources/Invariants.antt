use Rattle.std.proofs.Common.{◌≡◌}
use Rattle.tso_ops.specs.Values.{TraceValue}
use Rattle.tso_ops.specs.Limits.{IsTrace}
use Rattle.tso_ops.specs.Events.{events_of}
use Rattle.tso_ops.proofs.TableFacts.{AreFirstRows}
use Rattle.tso_ops.proofs.tables.list_sources.Given as goal

abbrev pub invariant-loop-event : goal.invariant-loop-event
invariant-loop-event l = (t : TraceValue) → IsTrace t → t.setting.first ≡ l.first → events_of t ≡ l.events → AreFirstRows t l.sources.items l.event-index
