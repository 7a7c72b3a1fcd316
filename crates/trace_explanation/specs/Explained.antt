-- The explanation of an input: the report up to its verdict, and what explains it.
use Rattle.std.specs.Prelude.{◌≡◌, ℕ, List, ◌++◌, refl}
use Rattle.tso_ops.specs.Values.{TraceValue}
use Rattle.tso_text.specs.declared.faults.Why.{Why}
use Rattle.trace_reports.specs.declared.verdicts.Verdict.{Verdict}
use Rattle.trace_reports.specs.declared.findings.Finding.{Finding}
use Rattle.trace_reports.specs.Renderings.{IsTextOfTrace, RendersRefusal}
use Rattle.trace_reports.specs.RefusalLines.{refusal_text}
use Rattle.trace_reports.specs.Reports.{head_text}
use Rattle.trace_explanation.specs.Explanations.{explanation_text}
use Rattle.trace_explanation.specs.Refusals.{numbered_line, refusal_explanation}

-- the report of a trace up to its verdict, and then the explanation
abbrev pub explained : TraceValue → Finding → List ℕ
explained t finding = head_text t finding ++ explanation_text t finding.certificate

-- the line of the refusal, and what is said of it
abbrev pub refusal_explained : RendersRefusal
refusal_explained input line why = refusal_text line why ++ refusal_explanation input line why

-- The text is the explanation of the trace.
abbrev pub IsTraceExplanation : TraceValue → List ℕ → Verdict → Type 0
IsTraceExplanation t text verdict = IsTextOfTrace explained t text verdict

-- a refusal of the text as a whole shows no line
pub whole_explained : (a b : List ℕ) (why : Why) → refusal_explained a 0 why ≡ refusal_explained b 0 why
unfolding refusal_explanation numbered_line
whole_explained a b why = refl
