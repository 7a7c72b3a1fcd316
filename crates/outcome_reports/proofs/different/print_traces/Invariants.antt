use Rattle.std.proofs.Common.{◌≡◌, take, string_bytes}
use Rattle.outcome_reports.specs.Internal.Counting.{traces_by}
use Rattle.outcome_reports.specs.Outcomes.{traces_text}
use Rattle.outcome_reports.proofs.different.print_traces.Given as goal

abbrev pub invariant-loop-lists : goal.invariant-loop-lists
invariant-loop-lists l = string_bytes l.text ≡ traces_text (traces_by l.program.setting (take l.lists-index l.traces))
