use Rattle.std.proofs.Common.{arith}
use Rattle.tso_rules.proofs.InferredFacts.{no_row_past}
use Rattle.tso_rules.proofs.paths.path_row.Goals as goal

pub returns-else-u-nodes-clause-paths : goal.returns-else-u-nodes-clause-paths
returns-else-u-nodes-clause-paths c = λ v. no_row_past c.args.graph.now c.args.u v c.nodes.ensures.within (λ low. omega (arith, low, c.nodes.ensures.size, c.if-u-nodes.false))
