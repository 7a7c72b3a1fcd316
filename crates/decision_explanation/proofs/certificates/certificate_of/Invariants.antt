use Rattle.std.proofs.Common.{◌≡◌, [], drop}
use Rattle.decision_explanation.specs.Certificates.{certificate_of}
use Rattle.decision_explanation.proofs.certificates.certificate_of.Given as goal

abbrev pub invariant-loop-k : goal.invariant-loop-k
invariant-loop-k l = certificate_of l.steps.items (drop l.k l.lines) ≡ certificate_of [] l.lines
