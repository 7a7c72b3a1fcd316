use Rattle.std.proofs.Common.{◌-◌}
use Rattle.issue_desk.proofs.issuers.+passes_from.Given as goal

abbrev pub decreases-passes_from : goal.decreases-passes_from
decreases-passes_from g l = l.shared.processors - l.p
