-- What the arguments of a command that reads files lead to: `judge FILE`, `decide FILE`, `check TRACE CERT` and `log FILE`.
use Rattle.std.specs.Prelude.{ℕ, List, Option, IfSome}
use Rattle.tso_model.specs.Axioms.{IsConsistent}
use Rattle.text_streams.specs.WrittenTexts.{LeavesAtFault}
use Rattle.trace_reports.specs.Reports.{rendered_refusal}
use Rattle.trace_reports.specs.Statuses.{status_of, status_of_answer}
use Rattle.trace_judging.specs.WrittenReports.{IsCheckReportOfReaders, IsReportOfReader}
use Rattle.trace_decisions.specs.DecisionTexts.{IsDecisionOfReader, decision_text}
use Rattle.log_text.specs.LogTexts.{SpellsLog}
use Rattle.log_text.specs.LogValues.{NumberedLog, log_operations}
use Rattle.request_serving.specs.Endings.{Ends, EndsByReport, EndsWithoutThread, Outputs}

-- the report on the trace of these bytes
abbrev pub EndsJudged : Option (List ℕ) → Outputs → ℕ → Type 0
EndsJudged trace o status = EndsByReport (IsReportOfReader trace) o status

-- the decision on the trace of these bytes, after 100,000 steps at most
abbrev pub EndsDecided : Option (List ℕ) → Outputs → ℕ → Type 0
EndsDecided trace o status = let is_text = IsDecisionOfReader decision_text rendered_refusal 100000 trace in Ends is_text status_of_answer (LeavesAtFault is_text) o status

-- the report of the certificate of these bytes on the trace of these
abbrev pub EndsChecked : Option (List ℕ) → Option (List ℕ) → Outputs → ℕ → Type 0
EndsChecked trace cert o status = EndsWithoutThread (IsCheckReportOfReaders trace cert) status_of o status

-- The log of these bytes has no order that meets the axioms of its memory model.
abbrev pub IsLogWithoutOrder : Option (List ℕ) → Type 0
IsLogWithoutOrder bytes = IfSome bytes (λ all. (log : NumberedLog) → SpellsLog all log → IsConsistent (log_operations log) → ⊥)
