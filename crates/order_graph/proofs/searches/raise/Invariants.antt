use Rattle.bitsets.specs.Tables.{Adds}
use Rattle.order_graph.proofs.SearchesFacts.{Raised}
use Rattle.order_graph.proofs.searches.raise.Given as goal

abbrev pub invariant-loop-x : goal.invariant-loop-x
invariant-loop-x l = Adds l.initial.levels l.levels l.tables.width (Raised l.tables.edges.now l.tables.paths.now l.tables.transposed.now l.initial.levels l.tables.width l.u l.v l.count l.x)
