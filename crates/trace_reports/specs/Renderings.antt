-- Texts that follow from what is found of a trace, or from the refusal of an input: what reports, decisions, explanations and pictures have in common.
use Rattle.std.specs.Prelude.{◌≡◌, ◌⊎◌, ℕ, List, Option}
use Rattle.std.specs.Option.{option_map_or}
use Rattle.tso_ops.specs.Values.{TraceValue}
use Rattle.tso_text.specs.declared.faults.Why.{Why}
use Rattle.tso_text.specs.Texts.{SpellsTrace}
use Rattle.tso_text.specs.Refusals.{IsTraceRefusal}
use Rattle.trace_reports.specs.declared.findings.Finding.{Finding}
use Rattle.trace_reports.specs.declared.verdicts.Verdict.{Verdict}
use Rattle.trace_reports.specs.declared.verdicts.Verdict.TheVariants.{NoViolation, Violation, Refused}
use Rattle.trace_reports.specs.Findings.{IsFinding}
use Rattle.text_streams.specs.Readings.{ReadsAs}

-- what is rendered of an input that is refused at a line for a cause
abbrev pub RendersRefusal : Type 0
RendersRefusal = List ℕ → ℕ → Why → List ℕ

-- ---- of any question, by what may be found, and what that answers

-- The text is rendered of the trace by what is found of it, and the verdict is what that answers.
pub record IsRendered {F V : Type 0} (is_found : TraceValue → F → Type 0) (answers : F → V) (renders : TraceValue → F → List ℕ) (t : TraceValue) (text : List ℕ) (verdict : V) : Type 0 where
  pub finding : F
  pub found : is_found t finding
  pub says : verdict ≡ answers finding
  pub whole : text ≡ renders t finding

-- The text is such a one on the trace that the input spells, or is rendered of the refusal of the input.
abbrev pub IsTextOf : {V : Type 0} → (TraceValue → List ℕ → V → Type 0) → V → RendersRefusal → List ℕ → List ℕ → V → Type 0
IsTextOf is_text refusing refused input text verdict =
    ((t : TraceValue) × SpellsTrace input t × is_text t text verdict)
    ⊎ ((line : ℕ) × (why : Why) × IsTraceRefusal input line why × (text ≡ refused input line why) × (verdict ≡ refusing))

-- the same of the bytes of a reader
abbrev pub IsTextOfBytes : {V : Type 0} → (TraceValue → List ℕ → V → Type 0) → V → RendersRefusal → Option (List ℕ) → List ℕ → V → Type 0
IsTextOfBytes is_text refusing refused remaining text verdict = ReadsAs remaining (λ input. IsTextOf is_text refusing refused input text verdict)

-- ---- of the question whether a trace is a violation

-- The text is rendered of the trace by what is found of it, and the trace is a violation if that has a certificate.
abbrev pub IsTextOfTrace : (TraceValue → Finding → List ℕ) → TraceValue → List ℕ → Verdict → Type 0
IsTextOfTrace renders t text verdict = IsRendered IsFinding (λ finding. option_map_or (λ _. Violation) finding.certificate NoViolation) renders t text verdict

-- the text is rendered of the trace that the input spells, or of the refusal of the input
abbrev pub IsTextOfInput : (TraceValue → Finding → List ℕ) → RendersRefusal → List ℕ → List ℕ → Verdict → Type 0
IsTextOfInput renders refused input text verdict = IsTextOf (IsTextOfTrace renders) Refused refused input text verdict

-- the text of the bytes of a reader
abbrev pub IsTextOfReader : (TraceValue → Finding → List ℕ) → RendersRefusal → Option (List ℕ) → List ℕ → Verdict → Type 0
IsTextOfReader renders refused remaining text verdict = IsTextOfBytes (IsTextOfTrace renders) Refused refused remaining text verdict
