use Rattle.std.specs.List.{All}
use Rattle.log_reports.specs.ValueViolations.{AreSourcesOf}
use Rattle.log_reports.proofs.value_violations.show_loads.Given as goal

abbrev pub invariant-loop-load : goal.invariant-loop-load
invariant-loop-load l = All (AreSourcesOf l.fn.known) l.shown.items
