use Rattle.order_graph.proofs.ShortCycles.{Closing}
use Rattle.order_graph.proofs.closing.closes_within.Given as goal

abbrev pub invariant-loop-count : goal.invariant-loop-count
invariant-loop-count l = Closing l.tables.edges.now l.tables.transposed.now l.levels.items l.reached.items l.seen.items l.tables.width l.tables.nodes l.start l.count
