use Rattle.issue_desk.specs.Finishing.{AgreeBelow}
use Rattle.issue_desk.proofs.agreement.first_torn.Given as goal

abbrev pub invariant-loop-p : goal.invariant-loop-p
invariant-loop-p l = AgreeBelow l.p l.steps l.program l.passes
