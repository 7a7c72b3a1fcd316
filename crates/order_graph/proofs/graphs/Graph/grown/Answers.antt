use Rattle.order_graph.proofs.GrownFacts.{grown_list, numbers_within}
use Rattle.order_graph.proofs.graphs.Graph.grown.Goals as goal

pub marked-requires-clause-within : goal.marked-requires-clause-within
marked-requires-clause-within c =
    let g = c.self.inside in
    rw c.deref.ensures.value (numbers_within g.tables.nodes g.tables.width g.grown.items c.self.invariant.1 c.self.invariant.0.fits)

pub returns : goal.returns
returns c =
    let g = c.self.inside in
    let list = rw c.deref.ensures.value at c.in_ok-list.ensures in
    grown_list c.args.self.now g.tables.nodes g.tables.width g.tables.edges.items g.grown.items _ c.self.view_is c.self.invariant.1 c.self.invariant.0.fits list
