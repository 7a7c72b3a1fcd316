use Rattle.std.proofs.Common.{suc, ◌-◌}
use Rattle.order_graph.specs.Digraphs.{IsEdge}
use Rattle.tso_ops.specs.Events.{event_total}
use Rattle.tso_rules.proofs.PassedFacts.{PassedLoads}
use Rattle.tso_rules.proofs.over_base.mark_load_past_over_base.Given as goal

-- the ends that the loads up to the last give, and the program-later ones of its processor, are marked
abbrev pub invariant-loads : goal.invariant-loads
invariant-loads l = PassedLoads l.trace (IsEdge l.graph) l.u l.fn.marks.items l.marks.items l.last

abbrev pub decreases-loads : goal.decreases-loads
decreases-loads l = suc (event_total l.trace) - l.last
