use Rattle.std.proofs.Common.{ap, arith}
use Rattle.chain_reach.specs.Groups.{node_count}
use Rattle.value_check.proofs.AnswerFacts.{refuses}
use Rattle.value_check.proofs.LeadingFacts.{leads_within}
use Rattle.value_check.proofs.known.Known.leads.Goals as goal

pub returns-then-x-nodes : goal.returns-then-x-nodes
returns-then-x-nodes c = refuses (λ leads. let within = leads_within c.args.self.now.reach c.args.x c.args.y leads in omega (arith, within.0, within.1, c.nodes-nodes.ensures.nodes, ap node_count c.chains.ensures.chains))

pub returns-then-y-nodes : goal.returns-then-y-nodes
returns-then-y-nodes c = refuses (λ leads. let within = leads_within c.args.self.now.reach c.args.x c.args.y leads in omega (arith, within.0, within.1, c.nodes-nodes.ensures.nodes, ap node_count c.chains.ensures.chains))
