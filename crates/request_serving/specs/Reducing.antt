-- What `reduce` prints of a trace.
use Rattle.std.specs.Prelude.{ℕ, List, Option}
use Rattle.trace_reduction.specs.Reductions.{IsReductionOf}
use Rattle.text_streams.specs.Readings.{ReadsAs}
use Rattle.trace_reports.specs.declared.verdicts.Verdict.{Verdict}
use Rattle.trace_reports.specs.declared.verdicts.Verdict.TheVariants.{Refused}
use Rattle.request_texts.specs.NthTraces.{IsWrittenOfNth}

-- the small trace that shows the violation of the only trace of a reader's bytes, or of the one of this number, or what is said where there is none
abbrev pub IsReduced : Option ℕ → Option (List ℕ) → List ℕ → Verdict → Type 0
IsReduced nth remaining text verdict = ReadsAs remaining (λ input. IsWrittenOfNth Refused nth IsReductionOf input text verdict)
