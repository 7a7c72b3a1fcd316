use Rattle.std.proofs.Common.{sym, subst}
use Rattle.round_pool.specs.Rankings.{ListsEdge, AreEdgesWithin}
use Rattle.round_pool.proofs.RoundFacts.{settled_adds, settled_grown}
use Rattle.round_pool.proofs.round_loop.add_round.Goals as goal

pub add_edges-requires : goal.add_edges-requires
add_edges-requires c = subst (λ n. AreEdgesWithin n c.args.edges.now) (sym c.settle.ensures.nodes) c.requires

pub returns-clause-edges : goal.returns-clause-edges
returns-clause-edges c = settled_adds c.args.graph.now c.settle.new.self c.add_edges.new.graph (ListsEdge c.args.edges.now) c.settle.ensures.nodes c.settle.ensures.edges c.add_edges.ensures.edges

pub returns-clause-grown : goal.returns-clause-grown
returns-clause-grown c = settled_grown c.args.graph.now c.settle.new.self c.add_edges.new.graph c.settle.ensures.edges c.add_edges.ensures.grown
