-- What verdicts say.
use Rattle.std.specs.Prelude.{ℕ, Bool, true, false, List, codes}
use Rattle.trace_reports.specs.declared.verdicts.Verdict.{Verdict}
use Rattle.trace_reports.specs.declared.verdicts.Verdict.TheVariants.{NoViolation, Violation, Refused}

abbrev pub is_violation : Verdict → Bool
is_violation NoViolation = false
is_violation Violation = true
is_violation Refused = false

abbrev pub is_refused : Verdict → Bool
is_refused NoViolation = false
is_refused Violation = false
is_refused Refused = true

-- the line of the verdict on a trace, which is a violation or not
abbrev pub verdict_line : Bool → List ℕ
verdict_line true = codes "VIOLATION\n"
verdict_line false = codes "NO VIOLATION FOUND\n"
