use Rattle.std.proofs.Common.{arith}
use Rattle.tso_ops.proofs.EventFacts.{event_total-most}
use Rattle.tso_ops.proofs.traces.Trace.node_count.Goals as goal

-- a trace of either version has at most 8,000 events
pub overflow_add-result : goal.overflow_add-result
overflow_add-result c = let bound = event_total-most c.args.self.now c.events.ensures.kept in omega arith
