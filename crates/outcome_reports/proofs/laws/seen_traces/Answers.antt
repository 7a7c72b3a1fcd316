use Rattle.outcome_reports.proofs.LawFacts.{each_counted, one_class, one_count}
use Rattle.outcome_reports.proofs.laws.seen_traces.Goals as goal

pub returns : goal.returns
returns c = record { one = λ program traces piece class other are. one_class program traces are piece class other; each = each_counted; text = one_count }
