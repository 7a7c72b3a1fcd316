use Rattle.std.proofs.Common.{◌≡◌, ◌++◌, List, length, take, string_bytes}
use Rattle.tso_ops.specs.Settings.{SettingValue}
use Rattle.outcome_reports.specs.Internal.Counting.{CountsOf, traces_by}
use Rattle.outcome_reports.specs.SeenTraces.{count_lines}
use Rattle.outcome_reports.specs.declared.classes.TraceClass.{TraceClass}
use Rattle.outcome_reports.proofs.counts.SeenCounts.print_lines.Given as goal

abbrev pub invariant-loop-k : goal.invariant-loop-k
invariant-loop-k l =
    (setting : SettingValue) (classes : List TraceClass) → CountsOf (length l.traces) classes l.self → string_bytes l.text ≡ string_bytes l.fn.text ++ count_lines classes 0 (traces_by setting (take l.k l.traces))
