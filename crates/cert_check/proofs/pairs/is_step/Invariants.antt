use Rattle.cert_check.proofs.Facts.{NotListedFrom}
use Rattle.cert_check.proofs.pairs.is_step.Given as goal

abbrev pub invariant-loop-k : goal.invariant-loop-k
invariant-loop-k l = NotListedFrom l.steps l.u l.v l.k
