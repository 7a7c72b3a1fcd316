use Rattle.std.proofs.Common.{List, ℕ, suc, reverse}
use Rattle.order_graph.specs.Digraphs.{IsEdge}
use Rattle.trace_judging.specs.Internal.Collecting.{Collects, IsAboveOrBase}
use Rattle.trace_judging.proofs.certificates.collect_base_row.Given as goal

abbrev pub invariant-loop-v : goal.invariant-loop-v
invariant-loop-v l = (k : ℕ) (cycle : List ℕ) →
    Collects l.trace k cycle (IsEdge l.marks) (IsAboveOrBase l.trace (suc l.u) 0) (reverse l.initial.steps.items) →
    Collects l.trace k cycle (IsEdge l.marks) (IsAboveOrBase l.trace l.u l.v) (reverse l.steps.items)
