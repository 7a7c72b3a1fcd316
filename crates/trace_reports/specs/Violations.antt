-- Which traces are violations.
use Rattle.std.specs.Prelude.{◌⊎◌, ℕ}
use Rattle.tso_ops.specs.Values.{TraceValue}
use Rattle.tso_ops.specs.Events.{IsUnwritten}
use Rattle.tso_model.specs.Rules.{HasDerivedCycle}

-- The trace is a violation: a load reads a value that nothing wrote, or the derived order has a cycle.
abbrev pub IsViolation : TraceValue → Type 0
IsViolation t = ((l : ℕ) × IsUnwritten t l) ⊎ HasDerivedCycle t
