use Rattle.order_graph.proofs.KeptTablesFacts.{sees_within}
use Rattle.order_graph.proofs.edge_rows.EdgeRows.nodes.Goals as goal

pub returns-clause-within : goal.returns-clause-within
returns-clause-within c = sees_within _ c.self.inside.nodes c.self.inside.width c.self.inside.words.items (record { grown = _; is = c.self.view_is })
