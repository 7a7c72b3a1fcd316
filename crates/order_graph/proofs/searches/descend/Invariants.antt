use Rattle.std.proofs.Common.{◌-◌}
use Rattle.order_graph.proofs.SearchesFacts.{Descends}
use Rattle.order_graph.proofs.searches.descend.Given as goal

abbrev pub invariant-loop-done : goal.invariant-loop-done
invariant-loop-done l = Descends l.tables.edges.now l.tables.paths.now l.tables.width l.tables.nodes l.u l.v l.count (l.count - l.done) l.at l.list.items
