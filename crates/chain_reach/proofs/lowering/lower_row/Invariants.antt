use Rattle.chain_reach.proofs.LoweredFacts.{Lowered}
use Rattle.chain_reach.proofs.lowering.lower_row.Given as goal

abbrev pub invariant-loop-d : goal.invariant-loop-d
invariant-loop-d l = Lowered l.initial.first l.first l.given l.start l.d
