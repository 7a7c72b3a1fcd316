use Rattle.std.proofs.Common.{◌≡◌, ◌<◌}
use Rattle.order_graph.specs.Digraphs.{IsEdge}
use Rattle.round_pool.specs.RankGraphs.{AddsEdges}
use Rattle.round_pool.proofs.ranked.add_kept.Given as goal

-- the edges to the numbers passed are added
abbrev pub invariant-loop-v : goal.invariant-loop-v
invariant-loop-v l = AddsEdges l.initial.graph l.graph (λ x y. (x ≡ l.u) × (y < l.v) × IsEdge l.last x y × (IsEdge l.later x y → ⊥))
