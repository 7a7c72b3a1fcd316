use Rattle.trace_batches.proofs.JudgmentFacts.{same_judgments}
use Rattle.trace_batches.proofs.TraceTextReports.{long_report}
use Rattle.trace_batches.proofs.laws.long_trace_texts.Goals as goal

pub returns : goal.returns
returns c = record { refused = long_report; kept = same_judgments }
