use Rattle.std.proofs.Common.{◌≡◌, List, ℕ, suc, reverse}
use Rattle.order_graph.specs.Digraphs.{IsEdge}
use Rattle.round_pool.specs.Rankings.{rounds_of}
use Rattle.trace_judging.specs.Internal.Collecting.{Collects, IsAboveRank, IsAboveOrListed}
use Rattle.trace_judging.proofs.certificates.collect_round.Given as goal

abbrev pub invariant-loop-i : goal.invariant-loop-i
invariant-loop-i l = (l.marks.nodes ≡ l.initial.marks.nodes) × ((cycle : List ℕ) →
    Collects l.trace (rounds_of l.ranked) cycle (IsEdge l.initial.marks) (IsAboveRank l.trace (suc l.r)) (reverse l.initial.steps.items) →
    Collects l.trace (rounds_of l.ranked) cycle (IsEdge l.marks) (IsAboveOrListed l.trace (suc l.r) l.edges l.i) (reverse l.steps.items))
