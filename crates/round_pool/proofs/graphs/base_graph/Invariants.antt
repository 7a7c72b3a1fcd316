use Rattle.round_pool.proofs.GraphFacts.{HasRowsBefore}
use Rattle.round_pool.proofs.graphs.base_graph.Given as goal

-- the rows of the numbers before the one that was reached are added
abbrev pub invariant-loop-u : goal.invariant-loop-u
invariant-loop-u l = HasRowsBefore l.trace l.rows l.u
