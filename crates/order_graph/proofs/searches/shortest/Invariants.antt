use Rattle.std.proofs.Common.{◌-◌}
use Rattle.order_graph.proofs.SearchesFacts.{Levels, path_size}
use Rattle.order_graph.proofs.searches.shortest.Given as goal

abbrev pub invariant-levels : goal.invariant-levels
invariant-levels l = Levels l.tables.edges.now l.tables.paths.now l.levels.items l.tables.width l.tables.nodes l.u l.v l.count

abbrev pub decreases-levels : goal.decreases-levels
decreases-levels l = path_size l.tables.edges.now l.tables.width l.tables.nodes l.u l.v - l.count
