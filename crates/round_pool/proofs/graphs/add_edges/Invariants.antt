use Rattle.std.proofs.Common.{take}
use Rattle.order_graph.specs.Digraphs.{IsEdge}
use Rattle.round_pool.specs.Internal.Worksets.{OnlyGrown}
use Rattle.round_pool.specs.RankGraphs.{AddsEdges}
use Rattle.round_pool.specs.Rankings.{ListsEdge}
use Rattle.round_pool.proofs.graphs.add_edges.Given as goal

-- the edges passed are added
abbrev pub invariant-loop-edge : goal.invariant-loop-edge
invariant-loop-edge l = AddsEdges l.initial.graph l.graph (ListsEdge (take l.edge-index l.edges)) × OnlyGrown (IsEdge l.initial.graph) l.graph
