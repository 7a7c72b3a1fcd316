-- The report of an input: the text that is written for it, and the verdict that it gives.
use Rattle.std.specs.Prelude.{◌≡◌, ℕ, List, [], ◌++◌, None, Some, codes, is_some}
use Rattle.std.specs.Option.{option_map_or}
use Rattle.std.specs.Fmt.{decimal}
use Rattle.tso_ops.specs.Values.{TraceValue}
use Rattle.tso_ops.specs.Events.{processor_count, event_total}
use Rattle.tso_text.specs.Texts.{SpellsTrace}
use Rattle.trace_reports.specs.declared.verdicts.Verdict.{Verdict}
use Rattle.tso_cert.specs.declared.steps.Certificate.{Certificate}
use Rattle.tso_cert.specs.Printed.{cert_text}
use Rattle.tso_model.specs.Certs.{Holds}
use Rattle.trace_reports.specs.RefusalLines.{refusal_text}
use Rattle.trace_reports.specs.declared.findings.Finding.{Finding}
use Rattle.trace_reports.specs.Renderings.{IsTextOfInput, IsTextOfTrace, RendersRefusal}
use Rattle.trace_reports.specs.Verdicts.{verdict_line}
use Rattle.trace_reports.specs.Violations.{IsViolation}

-- ---- texts

-- the first lines of a report on a trace, by what is found of it: the last of them says the verdict
abbrev pub head_text : TraceValue → Finding → List ℕ
head_text t finding = codes "TSO REPORT 1\nprocessors " ++ decimal (processor_count t) ++ codes " events " ++ decimal (event_total t)
    ++ codes " rounds " ++ decimal finding.rounds ++ codes "\n" ++ verdict_line (is_some finding.certificate)

-- ---- the report of a trace

-- what the report says of a trace: its last lines are those of the certificate, if there is one
abbrev pub reported : TraceValue → Finding → List ℕ
reported t finding = head_text t finding ++ option_map_or cert_text finding.certificate []

abbrev pub IsTraceReport : TraceValue → List ℕ → Verdict → Type 0
IsTraceReport t text verdict = IsTextOfTrace reported t text verdict

-- The text is the report of the trace by some number of rounds and a certificate that holds for the trace.
abbrev pub ShowsViolationOf : TraceValue → List ℕ → Type 0
ShowsViolationOf t text =
    (rounds : ℕ) × (certificate : Certificate) × Holds t certificate × (text ≡ reported t (record { rounds = rounds; certificate = Some certificate }))

-- The text is the report of the trace by some number of rounds and no certificate.
abbrev pub ShowsNoViolationOf : TraceValue → List ℕ → Type 0
ShowsNoViolationOf t text = (rounds : ℕ) × (text ≡ reported t (record { rounds = rounds; certificate = None }))

-- ---- the report of an input

-- the line of the refusal, whatever the input
abbrev pub rendered_refusal : RendersRefusal
rendered_refusal input line why = refusal_text line why

-- The text is the report of the input: that of the trace that it spells, or that of its refusal.
abbrev pub IsReport : List ℕ → List ℕ → Verdict → Type 0
IsReport input text verdict = IsTextOfInput reported rendered_refusal input text verdict

-- the input spells a trace that is a violation
abbrev pub SpellsViolation : List ℕ → Type 0
SpellsViolation input = (t : TraceValue) × SpellsTrace input t × IsViolation t
