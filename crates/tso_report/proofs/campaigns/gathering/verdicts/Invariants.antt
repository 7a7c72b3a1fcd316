use Rattle.std.proofs.Common.{◌≡◌, false, map, take, unwrap_or}
use Rattle.tso_report.proofs.campaigns.gathering.verdicts.Given as goal

abbrev pub invariant-loop-violation : goal.invariant-loop-violation
invariant-loop-violation l = l.known.items ≡ map (λ violation. unwrap_or violation false) (take l.violation-index l.violations)
