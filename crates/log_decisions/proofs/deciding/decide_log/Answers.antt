use Rattle.log_decisions.proofs.DecisionFacts.{reader_says}
use Rattle.log_decisions.proofs.deciding.decide_log.Goals as goal

pub returns-clause-says : goal.returns-clause-says
returns-clause-says g c = reader_says c.args.question (g.R.Read.remaining c.args.reader.now) _ _ c.in_ok-report.ensures.report
