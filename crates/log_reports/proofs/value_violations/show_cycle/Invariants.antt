use Rattle.std.specs.List.{All}
use Rattle.log_selections.specs.Shown.{IsLineOf}
use Rattle.log_reports.proofs.value_violations.show_cycle.Given as goal

abbrev pub invariant-loop-number : goal.invariant-loop-number
invariant-loop-number l = All (IsLineOf l.fn.known.lists) l.shown.items
