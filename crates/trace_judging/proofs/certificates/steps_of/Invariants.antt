use Rattle.std.proofs.Common.{◌≡◌, suc, reverse}
use Rattle.order_graph.specs.Digraphs.{IsEdge}
use Rattle.tso_ops.specs.Events.{event_total}
use Rattle.round_pool.specs.RankGraphs.{IsRankGraph}
use Rattle.round_pool.specs.Rankings.{rounds_of}
use Rattle.trace_judging.specs.Internal.Collecting.{Collects, IsAboveRank}
use Rattle.trace_judging.proofs.certificates.steps_of.Given as goal

abbrev pub invariant-loop-r : goal.invariant-loop-r
invariant-loop-r l = IsRankGraph l.trace l.r l.set × (l.marks.nodes ≡ suc (event_total l.trace)) ×
    Collects l.trace (rounds_of l.ranked) l.cycle (IsEdge l.marks) (IsAboveRank l.trace l.r) (reverse l.steps.items)
