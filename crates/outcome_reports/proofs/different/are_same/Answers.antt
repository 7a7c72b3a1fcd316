use Rattle.outcome_reports.proofs.SameOutcomes.{outcomes-Decides}
use Rattle.outcome_reports.proofs.different.are_same.Goals as goal

pub returns : goal.returns
returns c = outcomes-Decides c.args.one.now c.args.other.now c.eq.result c.eq.ensures
