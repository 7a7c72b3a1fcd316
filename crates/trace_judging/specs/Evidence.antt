-- The reports of evidence about traces, whatever its kind: certificates, orders, refutations.
use Rattle.std.specs.Prelude.{ℕ, ◌≤◌, List, length, Option}
use Rattle.tso_ops.specs.Values.{TraceValue}
use Rattle.text_streams.specs.Readings.{ReadsAs}
use Rattle.trace_reports.specs.Renderings.{IsTextOf}
use Rattle.trace_reports.specs.Reports.{rendered_refusal}
use Rattle.trace_judging.specs.Limits.{certificate_byte_limit}

-- what is the report of a text of evidence on a trace, and what it says
abbrev pub ReportsEvidence : Type 0 → Type 1
ReportsEvidence V = TraceValue → List ℕ → List ℕ → V → Type 0

-- The text is the report of two texts: of the evidence, whose text keeps its limit, on the trace that the first spells; or it is that of the first one's refusal.
abbrev pub IsReportOfTexts : {V : Type 0} → ReportsEvidence V → V → List ℕ → List ℕ → List ℕ → V → Type 0
IsReportOfTexts is_report refusing trace evidence text verdict =
    IsTextOf (λ t text verdict. (length evidence ≤ certificate_byte_limit) × is_report t evidence text verdict) refusing rendered_refusal trace text verdict

-- the same of the evidence that a reader has, and of the text of a trace
abbrev pub IsReportOfEvidence : {V : Type 0} → ReportsEvidence V → V → Option (List ℕ) → List ℕ → List ℕ → V → Type 0
IsReportOfEvidence is_report refusing evidence trace text verdict = ReadsAs evidence (λ input. IsReportOfTexts is_report refusing trace input text verdict)

-- the same of the bytes of two readers, of a trace and of evidence
abbrev pub IsReportOfReaders : {V : Type 0} → ReportsEvidence V → V → Option (List ℕ) → Option (List ℕ) → List ℕ → V → Type 0
IsReportOfReaders is_report refusing traces evidence text verdict = ReadsAs traces (λ trace. IsReportOfEvidence is_report refusing evidence trace text verdict)
