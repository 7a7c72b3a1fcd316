use Rattle.std.proofs.Common.{ℕ, take}
use Rattle.order_paths.specs.Paths.{Reaches}
use Rattle.order_graph.specs.Digraphs.{IsEdge}
use Rattle.round_pool.specs.Rankings.{ListsEdge}
use Rattle.round_pool.proofs.round_loop.closes_cycle.Given as goal

-- no edge passed closes a cycle
abbrev pub invariant-loop-edge : goal.invariant-loop-edge
invariant-loop-edge l = (u v : ℕ) → ListsEdge (take l.edge-index l.edges) u v → Reaches (IsEdge l.graph) v u → ⊥
