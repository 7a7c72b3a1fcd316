-- The reports of what readers have.
use Rattle.std.specs.Prelude.{ℕ, List, Option}
use Rattle.trace_reports.specs.declared.verdicts.Verdict.{Verdict}
use Rattle.trace_reports.specs.declared.verdicts.Verdict.TheVariants.{Refused}
use Rattle.trace_reports.specs.Renderings.{IsTextOfBytes, IsTextOfTrace}
use Rattle.trace_reports.specs.Reports.{rendered_refusal, reported}
use Rattle.trace_judging.specs.Checks.{IsCertReport}
use Rattle.trace_judging.specs.Evidence.{IsReportOfReaders}

-- the report of the bytes of a reader
abbrev pub IsReportOfReader : Option (List ℕ) → List ℕ → Verdict → Type 0
IsReportOfReader remaining text verdict = IsTextOfBytes (IsTextOfTrace reported) Refused rendered_refusal remaining text verdict

-- the report of the bytes of two readers, of a trace and of a certificate
abbrev pub IsCheckReportOfReaders : Option (List ℕ) → Option (List ℕ) → List ℕ → Verdict → Type 0
IsCheckReportOfReaders traces certs text verdict = IsReportOfReaders IsCertReport Refused traces certs text verdict
