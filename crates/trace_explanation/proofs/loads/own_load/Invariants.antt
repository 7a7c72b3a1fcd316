use Rattle.trace_explanation.specs.Steps.{reads_past}
use Rattle.trace_explanation.proofs.SearchFacts.{FailsUpTo}
use Rattle.trace_explanation.proofs.loads.own_load.Given as goal

abbrev pub invariant-loop-l : goal.invariant-loop-l
invariant-loop-l i = FailsUpTo (reads_past i.trace i.u i.v) i.l
