use Rattle.order_graph.specs.Digraphs.{IsEdge}
use Rattle.tso_cert.specs.declared.rules.InferredRule.TheVariants.{SwapAfter}
use Rattle.bitsets.specs.Rows.{Marks}
use Rattle.tso_rules.specs.Internal.MarkedRows.{IsNewRow}
use Rattle.bitsets.proofs.MarkFacts.{IsInEarlierWord}
use Rattle.tso_rules.proofs.inferred.mark_swap_after.Given as goal

-- the ends in the passed words are marked
abbrev pub invariant-loop-j : goal.invariant-loop-j
invariant-loop-j l = Marks l.fn.marks.items l.marks.items (IsInEarlierWord (IsNewRow l.trace SwapAfter (IsEdge l.graph) l.u) l.j)
