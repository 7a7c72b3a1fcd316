use Rattle.order_graph.proofs.KeptTablesFacts.{sees_within}
use Rattle.order_graph.proofs.graphs.Graph.nodes.Goals as goal

pub returns-clause-within : goal.returns-clause-within
returns-clause-within c = sees_within _ c.self.inside.tables.nodes c.self.inside.tables.width c.self.inside.tables.edges.items (record { grown = _; is = c.self.view_is })
