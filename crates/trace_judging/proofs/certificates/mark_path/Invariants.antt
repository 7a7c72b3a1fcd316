use Rattle.order_paths.specs.Neighbours.{AreNeighbours}
use Rattle.round_pool.specs.RankGraphs.{AddsEdges}
use Rattle.std.proofs.Common.{◌≤◌, take}
use Rattle.trace_judging.proofs.certificates.mark_path.Given as goal

abbrev pub invariant-loop-i : goal.invariant-loop-i
invariant-loop-i l = (1 ≤ l.i) × AddsEdges l.initial.marks l.marks (AreNeighbours (take l.i l.path))
