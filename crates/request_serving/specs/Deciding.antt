-- What `decide`, `verify` and `log --decide` print.
use Rattle.std.specs.Prelude.{ℕ, Bool, List, Option}
use Rattle.command_line.specs.declared.options.Presentation.{Presentation}
use Rattle.trace_reports.specs.declared.answers.Answer.{Answer}
use Rattle.trace_reports.specs.declared.answers.Answer.TheVariants.{Refused}
use Rattle.log_decisions.specs.LogDecisions.{IsLogDecisionOfReader}
use Rattle.trace_decisions.specs.DecisionTexts.{IsDecisionText}
use Rattle.trace_reports.specs.Renderings.{IsTextOf}
use Rattle.trace_decisions.specs.EvidenceReports.{IsEvidenceReport}
use Rattle.text_streams.specs.Readings.{ReadsAs}
use Rattle.request_texts.specs.NthTraces.{IsWrittenOfNth}
use Rattle.request_serving.specs.Evidence.{IsReportOfNth}
use Rattle.request_serving.specs.Presentations.{decided_as, refused_as}

-- the decision in this form, after at most so many steps, on the only trace of a reader's bytes, or on the one of this number
abbrev pub IsDecided : Presentation → ℕ → Option ℕ → Option (List ℕ) → List ℕ → Answer → Type 0
IsDecided presentation effort nth remaining text answer =
    ReadsAs remaining (λ input. IsWrittenOfNth Refused nth (IsTextOf (IsDecisionText (decided_as presentation) effort) Refused (refused_as presentation)) input text answer)

-- the line on the evidence that a reader has about the only trace of another reader's bytes, or about the one of this number
abbrev pub IsVerificationOfNth : Option ℕ → Option (List ℕ) → Option (List ℕ) → List ℕ → Answer → Type 0
IsVerificationOfNth nth traces evidence text answer = IsReportOfNth IsEvidenceReport Refused nth traces evidence text answer

-- the decision, by at most so many cases, on the log of a reader's bytes, which needs a line `end` or doesn't
abbrev pub IsDecidedLog : ℕ → Bool → Option (List ℕ) → List ℕ → Answer → Type 0
IsDecidedLog effort needs_end remaining text answer = IsLogDecisionOfReader (record { effort = effort; needs_end = needs_end }) remaining text answer
