use Rattle.outcome_reports.proofs.LawFacts.{one_listing, one_trace_list}
use Rattle.outcome_reports.proofs.laws.listings.Goals as goal

pub returns : goal.returns
returns c = record { traces = one_trace_list; text = one_listing }
