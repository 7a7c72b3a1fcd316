use Rattle.std.proofs.Common.{ℕ, ◌<◌}
use Rattle.order_paths.specs.Paths.{Reaches}
use Rattle.order_graph.specs.Digraphs.{IsEdge}
use Rattle.trace_judging.proofs.violations.has_cycle.Given as goal

-- no number passed reaches itself
abbrev pub invariant-loop-x : goal.invariant-loop-x
invariant-loop-x l = (y : ℕ) → y < l.x → Reaches (IsEdge l.graph) y y → ⊥
