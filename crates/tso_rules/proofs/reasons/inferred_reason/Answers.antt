use Rattle.tso_rules.proofs.InferredFacts.{path_within}
use Rattle.tso_rules.proofs.reasons.inferred_reason.Goals as goal

pub least_path-requires-clause-to : goal.least_path-requires-clause-to
least_path-requires-clause-to g c =
    let given = rw c.in-Some.is at c.in_ok-given.ensures in
    (path_within (g.G.PathSearch.digraph c.args.graph.now) c.in-Some.given.from c.in-Some.given.to c.nodes-nodes.ensures.within given.0.path).1
