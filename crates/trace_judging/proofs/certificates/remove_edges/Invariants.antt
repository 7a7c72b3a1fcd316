use Rattle.trace_judging.proofs.RoundSteps.{RemovesEdges}
use Rattle.trace_judging.proofs.certificates.remove_edges.Given as goal

abbrev pub invariant-loop-edge : goal.invariant-loop-edge
invariant-loop-edge l = RemovesEdges l.initial.set l.set l.edges l.edge-index
