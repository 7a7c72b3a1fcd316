-- What `check` and `verify` print: the report of evidence of a kind.
use Rattle.std.specs.Prelude.{ℕ, List, Option}
use Rattle.command_line.specs.Requests.{files_of}
use Rattle.command_line.specs.declared.requests.CheckRequest.{CheckRequest}
use Rattle.text_streams.specs.Readings.{ReadsAs}
use Rattle.trace_judging.specs.Evidence.{IsReportOfEvidence, ReportsEvidence}
use Rattle.request_texts.specs.NthTraces.{IsWrittenOfNth}
use Rattle.request_texts.specs.OpenedFiles.{text_bytes}

-- the report of the evidence that a reader has on the only trace of another reader's bytes, or on the one of this number
abbrev pub IsReportOfNth : {V : Type 0} → ReportsEvidence V → V → Option ℕ → Option (List ℕ) → Option (List ℕ) → List ℕ → V → Type 0
IsReportOfNth is_report refusing nth traces evidence text verdict = ReadsAs traces (λ input. IsWrittenOfNth refusing nth (IsReportOfEvidence is_report refusing evidence) input text verdict)

-- that of the texts which a request names, where standard input has these bytes, and the file of each name those
abbrev pub IsReportAsAsked : {V : Type 0} → ReportsEvidence V → V → CheckRequest → Option (List ℕ) → (List ℕ → Option (List ℕ)) → List ℕ → V → Type 0
IsReportAsAsked is_report refusing request input files text verdict =
    IsReportOfNth is_report refusing request.nth (text_bytes (files_of request.texts).0 input files) (text_bytes (files_of request.texts).1 input files) text verdict
