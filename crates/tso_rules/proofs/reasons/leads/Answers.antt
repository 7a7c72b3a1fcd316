use Rattle.std.proofs.Common.{arith}
use Rattle.std.proofs.lemmas.Bool.{false≢true}
use Rattle.tso_rules.proofs.InferredFacts.{path_within}
use Rattle.tso_rules.proofs.reasons.leads.Goals as goal
use Rattle.tso_rules.proofs.reasons.leads.Goals.{then-from-nodes-via-then-from-nodes, then-from-nodes-via-else-from-nodes+then-to-nodes}

pub returns-then-from-nodes : goal.returns-then-from-nodes
returns-then-from-nodes g c = (
  λ t. absurd (false≢true t),
  λ path.
      let within = path_within (g.G.PathSearch.digraph c.args.graph.now) c.args.from c.args.to c.nodes-nodes.ensures.within path in
      elim c.then-from-nodes.branch [
        | then-from-nodes-via-then-from-nodes w ↦ absurd (omega (arith, within.0))
        | then-from-nodes-via-else-from-nodes+then-to-nodes w ↦ absurd (omega (arith, within.1))
      ],
)
