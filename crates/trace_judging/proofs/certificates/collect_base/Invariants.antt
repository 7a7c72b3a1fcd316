use Rattle.std.proofs.Common.{List, ℕ, reverse}
use Rattle.order_graph.specs.Digraphs.{IsEdge}
use Rattle.trace_judging.specs.Internal.Collecting.{Collects, IsAboveRank, IsAboveOrBase}
use Rattle.trace_judging.proofs.certificates.collect_base.Given as goal

abbrev pub invariant-loop-u : goal.invariant-loop-u
invariant-loop-u l = (k : ℕ) (cycle : List ℕ) →
    Collects l.trace k cycle (IsEdge l.marks) (IsAboveRank l.trace 0) (reverse l.initial.steps.items) →
    Collects l.trace k cycle (IsEdge l.marks) (IsAboveOrBase l.trace l.u 0) (reverse l.steps.items)
