use Rattle.std.proofs.Common.{◌≡◌}
use Rattle.issue_desk.proofs.issuers.issue_all.Given as goal

abbrev pub invariant-loop-done : goal.invariant-loop-done
invariant-loop-done g l = l.pass.processor ≡ l.p
